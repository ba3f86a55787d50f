use Rattle.std.proofs.Common.{◌≡◌, ◌<◌, ◌-◌, ◌∙◌, arith, subst, sym, Some, refl}
use Rattle.lwc_types.specs.declared.limits.TheConstants.{MOST_PAGES}
use Rattle.range_map.specs.Kinds.{state_after}
use Rattle.range_map.proofs.Built.{HasRunsBelow, all_built, none_built, run_absent, run_present}
use Rattle.range_map.proofs.Ranges.{first_begins, one_more, ranges_grow}
use Rattle.range_map.proofs.map.segments_after.Goals as goal

pub runs-init : goal.runs-init
runs-init c =
    let kinds = state_after c.args.changes.now c.args.segments.now in
    record {
      inside = omega arith;
      begins = λ inside. first_begins kinds;
      built = subst (HasRunsBelow 0 kinds) (sym c.new-after.ensures) (none_built kinds);
    }

pub push-requires : goal.push-requires
push-requires c =
    let kinds = state_after c.args.changes.now c.args.segments.now in
    let end = c.run_end-end.ensures in
    let inside : c.runs.p < MOST_PAGES = omega (arith, c.runs-test.true) in
    let some : kinds c.runs.p ≡ Some c.in-Some.state = sym c.state_after.ensures ∙ c.in-Some.is in
    let more = one_more kinds c.runs.p (c.run_end-end.result - c.runs.p - 1) c.run_end-end.result (omega (arith, end.past)) end.alike (c.runs.invariant.begins inside) in
    let all = ranges_grow kinds c.run_end-end.result (MOST_PAGES - c.run_end-end.result) MOST_PAGES (omega (arith, end.within)) in
    let counted = c.runs.invariant.built.counted in
    (omega arith, grind (arith, some, more, all, counted, c.requires))

pub runs-preserved-in-Some : goal.runs-preserved-in-Some
runs-preserved-in-Some c =
    let kinds = state_after c.args.changes.now c.args.segments.now in
    let end = c.run_end-end.ensures in
    let inside : c.runs.p < MOST_PAGES = omega (arith, c.runs-test.true) in
    let some : kinds c.runs.p ≡ Some c.in-Some.state = sym c.state_after.ensures ∙ c.in-Some.is in
    record {
      inside = end.within;
      begins = end.begins;
      built = subst (HasRunsBelow c.run_end-end.result kinds) (sym c.push.ensures.items)
          (run_present kinds c.runs.p c.run_end-end.result c.runs.after.items end.past end.alike (c.runs.invariant.begins inside) c.runs.invariant.built _ refl refl some);
    }

pub runs-preserved : goal.runs-preserved
runs-preserved c =
    let kinds = state_after c.args.changes.now c.args.segments.now in
    let end = c.run_end-end.ensures in
    let inside : c.runs.p < MOST_PAGES = omega (arith, c.runs-test.true) in
    record {
      inside = end.within;
      begins = end.begins;
      built = run_absent kinds c.runs.p c.run_end-end.result c.runs.after.items end.past end.alike (c.runs.invariant.begins inside) c.runs.invariant.built
          (sym c.state_after.ensures ∙ c.in_default.is);
    }

pub returns-clause-canonical : goal.returns-clause-canonical
returns-clause-canonical c =
    let kinds = state_after c.args.changes.now c.args.segments.now in
    let last : c.runs.p ≡ MOST_PAGES = omega (arith, c.runs-test.false, c.runs.invariant.inside) in
    all_built kinds c.runs.after.items (subst (λ p. HasRunsBelow p kinds c.runs.after.items) last c.runs.invariant.built)
