use Rattle.std.proofs.Common.{◌-◌, get_or, ap, arith, refl, sym, ◌∙◌, set}
use Rattle.std.proofs.Math.ListN.{length-set}
use Rattle.std.proofs.lemmas.List.{get_or_read}
use Rattle.pool_base.proofs.PaddedLemmas.{padded-set, held-in_list, get_or-padded}
use Rattle.pool_base.proofs.StackLemmas.{IsStack-drop, IsStack-hold, length-free-held}
use Rattle.pool_base.proofs.hold_counts.HoldCounts.drop_hold.Goals as goal

pub push_reserved-requires : goal.push_reserved-requires
push_reserved-requires c =
    let at = ap (λ places. get_or places.counts c.args.place 0) c.self.view_is in
    let inside = held-in_list c.self.inside.places c.self.inside.counts.items c.args.place (omega (arith, at, c.requires)) in
    let same = get_or-padded c.self.inside.places 0 c.self.inside.counts.items c.args.place 0 inside in
    let less = length-free-held _ _ c.args.place c.self.invariant.stack (omega (arith, at, same, c.requires)) in
    omega (arith, less, c.self.inside.free.ok, c.self.inside.counts.ok)

pub invariant_of-self : goal.invariant_of-self
invariant_of-self c =
    let at = ap (λ places. get_or places.counts c.args.place 0) c.self.view_is in
    let inside = held-in_list c.self.inside.places c.self.inside.counts.items c.args.place (omega (arith, at, c.requires)) in
    let same = get_or-padded c.self.inside.places 0 c.self.inside.counts.items c.args.place 0 inside in
    record {
      stack = rw (c.push_reserved.ensures.items, c.if-count-eq0.true) (IsStack-drop _ _ c.args.place c.self.invariant.stack (omega (arith, at, same, c.requires)));
      few = omega arith;
      small = omega arith;
      room = omega arith;
      free_room = omega (arith, c.push_reserved.ensures.capacity);
    }

pub invariant_of-self-else-count-eq0 : goal.invariant_of-self-else-count-eq0
invariant_of-self-else-count-eq0 c =
    let at = ap (λ places. get_or places.counts c.args.place 0) c.self.view_is in
    let inside = held-in_list c.self.inside.places c.self.inside.counts.items c.args.place (omega (arith, at, c.requires)) in
    let same = get_or-padded c.self.inside.places 0 c.self.inside.counts.items c.args.place 0 inside in
    record {
      stack = IsStack-hold _ _ c.args.place _ c.self.invariant.stack (omega (arith, at, same, c.requires)) (omega arith);
      few = omega arith;
      small = omega arith;
      room = omega arith;
      free_room = omega arith;
    }

pub returns-then-count-eq0-clause-counts : goal.returns-then-count-eq0-clause-counts
returns-then-count-eq0-clause-counts c =
    let at = ap (λ places. get_or places.counts c.args.place 0) c.self.view_is in
    let inside = held-in_list c.self.inside.places c.self.inside.counts.items c.args.place (omega (arith, at, c.requires)) in
    let same = get_or-padded c.self.inside.places 0 c.self.inside.counts.items c.args.place 0 inside in
    padded-set c.self.inside.places 0 _ _ c.args.place (c.index.result.now - 1) inside refl (length-set c.self.inside.counts.items c.args.place (c.index.result.now - 1))
    ∙ ap (λ places. set places.counts c.args.place (c.index.result.now - 1)) c.self.view_is
    ∙ ap (λ n. set c.args.self.now.counts c.args.place (n - 1)) (get_or_read c.self.inside.counts.items c.args.place c.index.result.now inside c.index.ensures 0 ∙ sym same ∙ at)

pub returns-else-count-eq0-clause-counts : goal.returns-else-count-eq0-clause-counts
returns-else-count-eq0-clause-counts c =
    let at = ap (λ places. get_or places.counts c.args.place 0) c.self.view_is in
    let inside = held-in_list c.self.inside.places c.self.inside.counts.items c.args.place (omega (arith, at, c.requires)) in
    let same = get_or-padded c.self.inside.places 0 c.self.inside.counts.items c.args.place 0 inside in
    padded-set c.self.inside.places 0 _ _ c.args.place (c.index.result.now - 1) inside refl (length-set c.self.inside.counts.items c.args.place (c.index.result.now - 1))
    ∙ ap (λ places. set places.counts c.args.place (c.index.result.now - 1)) c.self.view_is
    ∙ ap (λ n. set c.args.self.now.counts c.args.place (n - 1)) (get_or_read c.self.inside.counts.items c.args.place c.index.result.now inside c.index.ensures 0 ∙ sym same ∙ at)
