use Rattle.std.proofs.Common.{[]}
use Rattle.whole_world.specs.Tags.{rows_count, rows_tags}
use Rattle.whole_world.proofs.Counted.{IsCountedNew}
use Rattle.whole_world.proofs.tags.Rows.count_different.Given as goal

abbrev pub invariant-loop-row : goal.invariant-loop-row
invariant-loop-row l = IsCountedNew [] (rows_tags l.self) (rows_tags l.rest) l.count

abbrev pub decreases-loop-row : goal.decreases-loop-row
decreases-loop-row l = rows_count l.rest
