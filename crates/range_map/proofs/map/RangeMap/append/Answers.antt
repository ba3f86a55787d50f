use Rattle.std.proofs.Common.{◌∷◌, ◌++◌, ◌∙◌, [], ap, arith, length, refl, subst, sym}
use Rattle.range_map.specs.Kinds.{IsCanonical, state_at}
use Rattle.range_map.proofs.Appended.{push-canonical, push-states, ranges_one}
use Rattle.range_map.proofs.map.RangeMap.append.Goals as goal

pub push-requires : goal.push-requires
push-requires c =
    let is = c.self.view_is ∙ c.grow_last.ensures.same c.if-not-grow_last.true in
    let canonical = subst IsCanonical is c.self.invariant in
    let one = ranges_one c.args.self.now c.args.from c.args.to c.args.state canonical.some canonical.apart c.requires.order c.requires.inside c.requires.clear (c.grow_last.ensures.parted c.if-not-grow_last.true) in
    (omega arith, omega (arith, one, canonical.counted, ap length is, c.requires.few))

pub invariant_of-self : goal.invariant_of-self
invariant_of-self c =
    let is = c.self.view_is ∙ c.grow_last.ensures.same c.if-not-grow_last.true in
    let canonical = subst IsCanonical is c.self.invariant in
    subst IsCanonical (sym (c.push.ensures.items ∙ ap (λ ss. ss ++ record { from = c.args.from; to = c.args.to; kind = c.args.state.kind; right = c.args.state.right } ∷ []) is))
    (push-canonical c.args.self.now c.args.from c.args.to c.args.state canonical.some canonical.apart c.requires.order c.requires.inside c.requires.clear (c.grow_last.ensures.parted c.if-not-grow_last.true) _ refl refl refl canonical.counted)

pub returns-then-not-grow_last : goal.returns-then-not-grow_last
returns-then-not-grow_last c q =
    let is = c.self.view_is ∙ c.grow_last.ensures.same c.if-not-grow_last.true in
    let canonical = subst IsCanonical is c.self.invariant in
    ap (λ ss. state_at ss q) (c.push.ensures.items ∙ ap (λ ss. ss ++ record { from = c.args.from; to = c.args.to; kind = c.args.state.kind; right = c.args.state.right } ∷ []) is)
    ∙ push-states c.args.self.now c.args.from c.args.to c.args.state canonical.some canonical.apart c.requires.order c.requires.inside c.requires.clear (c.grow_last.ensures.parted c.if-not-grow_last.true) _ refl refl refl q
