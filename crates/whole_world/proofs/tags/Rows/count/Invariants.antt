use Rattle.whole_world.specs.Tags.{rows_count, rows_tags}
use Rattle.whole_world.proofs.Counted.{IsCounted}
use Rattle.whole_world.proofs.tags.Rows.count.Given as goal

abbrev pub invariant-loop-row : goal.invariant-loop-row
invariant-loop-row l = IsCounted l.tag (rows_tags l.self) (rows_tags l.rest) l.count

abbrev pub decreases-loop-row : goal.decreases-loop-row
decreases-loop-row l = rows_count l.rest
