use Rattle.std.proofs.Common.{◌+◌, arith, subst}
use Rattle.whole_world.specs.Tags.{row_tags, rows_tags}
use Rattle.whole_world.proofs.Counted.{IsCounted, counted_more, counted-le-length, counted_all}
use Rattle.whole_world.proofs.tags.Rows.count.Goals as goal

counted : (c : goal.After-count-count) → IsCounted c.args.tag (rows_tags c.args.self) (rows_tags c.in-Some.others) (c.loop-row.count + c.count-count.result)
counted c =
    counted_more c.args.tag (rows_tags c.args.self) (row_tags c.in-Some.row) (rows_tags c.in-Some.others) c.loop-row.count c.count-count.result
    (subst (λ rest. IsCounted c.args.tag (rows_tags c.args.self) rest c.loop-row.count) c.in-Some.ensures.tags c.loop-row.invariant) c.count-count.ensures

pub overflow_add-count : goal.overflow_add-count
overflow_add-count c = omega (arith, counted-le-length _ _ _ _ (counted c), c.requires)

pub loop-row-preserved : goal.loop-row-preserved
loop-row-preserved c = counted c

pub returns : goal.returns
returns c =
    counted_all c.args.tag (rows_tags c.args.self) c.loop-row.count
    (subst (λ rest. IsCounted c.args.tag (rows_tags c.args.self) rest c.loop-row.count) c.in_default.ensures.none c.loop-row.invariant)
