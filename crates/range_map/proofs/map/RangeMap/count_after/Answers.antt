use Rattle.std.proofs.Common.{arith, refl, ◌-◌, ◌<◌}
use Rattle.lwc_types.specs.declared.limits.TheConstants.{MOST_PAGES}
use Rattle.range_map.specs.Kinds.{ranges, state_after}
use Rattle.range_map.proofs.Ranges.{few_ranges, first_begins, one_more}
use Rattle.range_map.proofs.map.RangeMap.count_after.Goals as goal
use Rattle.range_map.proofs.map.RangeMap.count_after.Goals.{then-is_some, else-is_some}

pub runs-init : goal.runs-init
unfolding ranges
runs-init c = record {
  inside = omega arith;
  begins = λ inside. first_begins (state_after c.args.changes.now c.as_slice-segments.result.now);
  counted = refl;
}

pub overflow_add-count : goal.overflow_add-count
overflow_add-count c = let few = few_ranges (state_after c.args.changes.now c.as_slice-segments.result.now) c.runs.p in omega (arith, c.runs.invariant.counted, c.runs.invariant.inside)

pub runs-preserved : goal.runs-preserved
runs-preserved c =
    let kinds = state_after c.args.changes.now c.as_slice-segments.result.now in
    let end = c.run_end-p.ensures in
    let inside : c.runs.p < MOST_PAGES = omega (arith, c.runs-test.true) in
    let counted = c.runs.invariant.counted in
    let more = one_more kinds c.runs.p (c.run_end-p.result - c.runs.p - 1) c.run_end-p.result (omega arith) end.alike (c.runs.invariant.begins inside) in
    record {
      inside = end.within;
      begins = end.begins;
      counted = elim c.if-is_some.branch [
        | then-is_some w ↦ let h = w.if-is_some.true in let k = w.count-is in let e = c.is_some.ensures in let f = c.state_after.ensures in grind (arith, more, counted)
        | else-is_some w ↦ let h = w.if-is_some.false in let k = w.count-is in let e = c.is_some.ensures in let f = c.state_after.ensures in grind (arith, more, counted)
      ];
    }
