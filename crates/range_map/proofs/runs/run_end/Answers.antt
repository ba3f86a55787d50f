use Rattle.std.proofs.Common.{◌≡◌, ◌∙◌, ◌-◌, arith, false, subst, sym}
use Rattle.std.specs.Option.{option_eq}
use Rattle.range_map.specs.contracts.segment.PageStatePartialEq.TheImpl.{eq-value}
use Rattle.range_map.specs.Kinds.{state_after}
use Rattle.range_map.proofs.Ranges.{begins_past}
use Rattle.range_map.proofs.runs.run_end.Goals as goal

pub returns-else-eq-clause-begins : goal.returns-else-eq-clause-begins
returns-else-eq-clause-begins c inside =
    let inv = c.runs.invariant in
    begins_past (state_after c.args.changes.now c.args.segments.now) c.args.page (c.runs.end - 1) c.runs.end (omega (arith, inv.past))
    (inv.alike (c.runs.end - 1) (omega (arith, inv.past)) (omega (arith, inv.past)))
    (subst (λ k. option_eq eq-value.it k (state_after c.args.changes.now c.args.segments.now c.runs.end) ≡ false) c.state_after-state.ensures
    (subst (λ k. option_eq eq-value.it c.state_after-state.result k ≡ false) c.state_after.ensures (sym c.eq.ensures ∙ c.if-eq.false)))
