use Rattle.std.proofs.Common.{length}
use Rattle.whole_world.specs.Tags.{page_tags, rows_tags}
use Rattle.whole_world.proofs.Counted.{IsCountedNew}
use Rattle.whole_world.proofs.tags.count_new_tags.Given as goal

abbrev pub invariant-loop-first : goal.invariant-loop-first
invariant-loop-first g l = IsCountedNew (rows_tags l.later) (page_tags g.P.Page.value l.pages) (page_tags g.P.Page.value l.rest) l.count

abbrev pub decreases-loop-first : goal.decreases-loop-first
decreases-loop-first g l = length l.rest
