use Rattle.std.proofs.Common.{◌+◌, get_or, ap, arith, refl, sym, ◌∙◌, set}
use Rattle.std.proofs.Math.ListN.{length-set}
use Rattle.std.proofs.lemmas.List.{get_or_read}
use Rattle.pool_base.proofs.PaddedLemmas.{padded-set, held-in_list, get_or-padded}
use Rattle.pool_base.proofs.StackLemmas.{IsStack-hold}
use Rattle.pool_base.proofs.hold_counts.HoldCounts.hold.Goals as goal

pub invariant_of-self : goal.invariant_of-self
invariant_of-self c =
    let at = ap (λ places. get_or places.counts c.args.place 0) c.self.view_is in
    let inside = held-in_list c.self.inside.places c.self.inside.counts.items c.args.place (omega (arith, at, c.requires.held)) in
    let same = get_or-padded c.self.inside.places 0 c.self.inside.counts.items c.args.place 0 inside in
    record {
      stack = IsStack-hold _ _ c.args.place _ c.self.invariant.stack (omega (arith, at, same, c.requires.held)) (omega arith);
      few = omega (arith, c.self.invariant.few);
      small = c.self.invariant.small;
      room = omega (arith, c.self.invariant.room);
      free_room = c.self.invariant.free_room;
    }

pub returns-clause-counts : goal.returns-clause-counts
returns-clause-counts c =
    let at = ap (λ places. get_or places.counts c.args.place 0) c.self.view_is in
    let inside = held-in_list c.self.inside.places c.self.inside.counts.items c.args.place (omega (arith, at, c.requires.held)) in
    let same = get_or-padded c.self.inside.places 0 c.self.inside.counts.items c.args.place 0 inside in
    padded-set c.self.inside.places 0 _ _ c.args.place (c.index_mut.result.now + 1) inside refl (length-set c.self.inside.counts.items c.args.place (c.index_mut.result.now + 1))
    ∙ ap (λ places. set places.counts c.args.place (c.index_mut.result.now + 1)) c.self.view_is
    ∙ ap (λ n. set c.args.self.now.counts c.args.place (n + 1)) (get_or_read c.self.inside.counts.items c.args.place c.index_mut.result.now inside c.index_mut.ensures.value 0 ∙ sym same ∙ at)
