use Rattle.std.proofs.Common.{◌≡◌, ◌∙◌, subst, true}
use Rattle.range_map.specs.Kinds.{IsCanonical, is_edge, state_at}
use Rattle.range_map.proofs.Edges.{none, other_state}
use Rattle.range_map.proofs.map.RangeMap.run_at.Goals as goal

pub returns-clause-alike : goal.returns-clause-alike
returns-clause-alike c q low high =
    subst (λ segments. state_at segments q ≡ state_at segments c.args.page) (c.as_slice.ensures.value ∙ c.self.view_is) (c.run_at.ensures.alike q low high)

pub returns-clause-other : goal.returns-clause-other
returns-clause-other c early =
    let is = c.as_slice.ensures.value ∙ c.self.view_is in
    let found = c.run_at.ensures in
    other_state c.args.self.now (subst IsCanonical c.self.view_is c.self.invariant) none c.args.page c.run_at.result.1 found.past
    (subst (λ segments. is_edge segments c.run_at.result.1 ≡ true) is (found.edge early))
    (λ q low high. subst (λ segments. state_at segments q ≡ state_at segments c.args.page) is (found.alike q low high))
