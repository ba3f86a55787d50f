use Rattle.std.proofs.Common.{◌≡◌, ◌+◌, ◌++◌, ap, append-nil, arith, length, subst, sym, []}
use Rattle.whole_world.specs.Tags.{different, row_tags, rows_tags}
use Rattle.whole_world.proofs.Counted.{IsCountedNew, counted_new_more, counted_new-le-length, counted_new_all, next-le-length}
use Rattle.whole_world.proofs.TagLists.{different-nil}
use Rattle.whole_world.proofs.tags.Rows.count_different.Goals as goal

pub count_new-count-requires : goal.count_new-count-requires
count_new-count-requires c =
    let next = ap length c.in-Some.ensures.tags in
    omega (arith, next-le-length (rows_tags c.args.self) (row_tags c.in-Some.row) (rows_tags c.in-Some.others) (omega (arith, next, c.loop-row.invariant.few)), c.requires)

counted : (c : goal.After-count_new-count) → IsCountedNew [] (rows_tags c.args.self) (rows_tags c.in-Some.others) (c.loop-row.count + c.count_new-count.result)
counted c =
    counted_new_more [] (rows_tags c.args.self) (row_tags c.in-Some.row) (rows_tags c.in-Some.others) c.loop-row.count c.count_new-count.result
    (subst (λ rest. IsCountedNew [] (rows_tags c.args.self) rest c.loop-row.count) c.in-Some.ensures.tags c.loop-row.invariant)
    (subst (λ others. c.count_new-count.result + different others ≡ different (row_tags c.in-Some.row ++ others)) (sym (append-nil (rows_tags c.in-Some.others))) c.count_new-count.ensures)

pub overflow_add-count : goal.overflow_add-count
overflow_add-count c = omega (arith, counted_new-le-length _ _ _ _ (counted c), c.requires)

pub loop-row-preserved : goal.loop-row-preserved
loop-row-preserved c = counted c

pub returns : goal.returns
returns c =
    omega (
      arith,
      counted_new_all [] (rows_tags c.args.self) c.loop-row.count
          (subst (λ rest. IsCountedNew [] (rows_tags c.args.self) rest c.loop-row.count) c.in_default.ensures.none c.loop-row.invariant),
      different-nil,
      ap different (append-nil (rows_tags c.args.self)),
    )
