use Rattle.std.proofs.Common.{◌≡◌, ℕ, ◌<◌, ◌≤◌, ◌-◌, ◌∷◌, ◌++◌, ◌∙◌, [], ap, arith, false, true, not, Bool, get_or, length, refl, rules, slice_get, subst, sym, take, None, Some}
use Rattle.std.specs.Option.{option_copied, option_eq}
use Rattle.range_map.specs.Kinds.{IsCanonical, are_alike, put_state, state_at, state_in}
use Rattle.range_map.specs.declared.segment.Segment.{Segment}
use Rattle.range_map.specs.contracts.segment.PageStatePartialEq.TheImpl.{eq-value}
use Rattle.range_map.proofs.Appended.{all_parted, ends_with, grown-canonical, grown-states}
use Rattle.range_map.proofs.Ranges.{differ}
use Rattle.range_map.proofs.map.RangeMap.grow_last.Goals as goal
use Rattle.range_map.proofs.map.RangeMap.grow_last.Goals.{then-last-from-via-then-last-from, then-last-from-via-else-last-from+then-ne}

neg : (b : Bool) → not b ≡ true → b ≡ false
neg true is = absurd cc
neg false is = refl

pub returns-then-last-from-clause-parted : goal.returns-then-last-from-clause-parted
returns-then-last-from-clause-parted c none =
    let segments = c.args.self.now in
    let same = c.as_slice.ensures.value ∙ c.self.view_is in
    let all = ends_with segments c.in-Some.last.now (ap (λ ss. slice_get ss (length ss - 1)) (sym same) ∙ sym c.last.ensures.value ∙ ap option_copied c.in-Some.is) in
    let canonical = subst IsCanonical (c.self.view_is ∙ all) c.self.invariant in
    let differs : c.in-Some.last.now.to ≡ c.args.from → are_alike (Some (state_in c.in-Some.last.now)) (Some c.args.state) ≡ false = elim c.then-last-from.branch [
      | then-last-from-via-then-last-from w ↦ λ ends. absurd (w.if-last-from.true ends)
      | then-last-from-via-else-last-from+then-ne w ↦ λ ends. differ (Some (state_in c.in-Some.last.now)) (Some c.args.state) (subst (λ k. option_eq eq-value.it (Some k) (Some c.args.state) ≡ false) w.state.ensures (neg (option_eq eq-value.it (Some w.state.result) (Some c.args.state)) (sym w.ne.ensures ∙ w.if-ne.true)))
    ] in
    subst (λ ss. (k : ℕ) (d : Segment) → k < length ss → (get_or ss k d).to ≡ c.args.from → are_alike (Some (state_in (get_or ss k d))) (Some c.args.state) ≡ false) (sym all)
    (all_parted (take (length segments - 1) segments) c.in-Some.last.now canonical c.args.from c.args.state (subst (λ ss. (q : ℕ) → c.args.from ≤ q → state_at ss q ≡ None) all c.requires.clear) differs)

pub invariant_of-self : goal.invariant_of-self
invariant_of-self c =
    let all = ends_with c.self.inside.segments.items c.in-Some.last.now (ap (λ ss. slice_get ss (length ss - 1)) (sym c.as_slice.ensures.value) ∙ sym c.last.ensures.value ∙ ap option_copied c.in-Some.is) in
    subst IsCanonical (sym (c.push.ensures.items ∙ ap (λ ss. ss ++ record { from = c.in-Some.last.now.from; to = c.args.to; kind = c.in-Some.last.now.kind; right = c.in-Some.last.now.right } ∷ []) c.pop.ensures.rest))
    (grown-canonical (take (length c.self.inside.segments.items - 1) c.self.inside.segments.items) c.in-Some.last.now (subst IsCanonical all c.self.invariant) c.args.to (omega (arith, c.requires.order, c.if-last-from.false)) c.requires.inside _ refl refl refl)

pub returns-clause-grown : goal.returns-clause-grown
returns-clause-grown c grown q =
    let segments = c.self.inside.segments.items in
    let all = ends_with segments c.in-Some.last.now (ap (λ ss. slice_get ss (length ss - 1)) (sym c.as_slice.ensures.value) ∙ sym c.last.ensures.value ∙ ap option_copied c.in-Some.is) in
    let same : state_in c.in-Some.last.now ≡ c.args.state = search rules in
    ap (λ ss. state_at ss q) (c.push.ensures.items ∙ ap (λ ss. ss ++ record { from = c.in-Some.last.now.from; to = c.args.to; kind = c.in-Some.last.now.kind; right = c.in-Some.last.now.right } ∷ []) c.pop.ensures.rest)
    ∙ grown-states (take (length segments - 1) segments) c.in-Some.last.now (subst IsCanonical all c.self.invariant) c.args.to (omega (arith, c.requires.order, c.if-last-from.false)) c.requires.inside _ refl refl refl q
    ∙ ap (λ ss. put_state (state_at ss) c.in-Some.last.now.to c.args.to (state_in c.in-Some.last.now) q) (sym all ∙ c.self.view_is)
    ∙ (λ i. put_state (state_at c.args.self.now) (c.if-last-from.false i) c.args.to (same i) q)
