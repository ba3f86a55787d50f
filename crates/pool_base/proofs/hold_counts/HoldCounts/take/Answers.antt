use Rattle.std.proofs.Common.{ap, arith, refl, ◌∙◌, set}
use Rattle.std.proofs.Math.ListN.{length-set}
use Rattle.pool_base.proofs.PaddedLemmas.{padded-set, padded-push}
use Rattle.pool_base.proofs.StackLemmas.{IsStack-take, top-inside}
use Rattle.pool_base.proofs.hold_counts.HoldCounts.take.Goals as goal

pub invariant_of-self : goal.invariant_of-self
invariant_of-self c =
    record {
      stack = IsStack-take _ _ _ _ c.self.invariant.stack c.in-Some.ensures.items;
      few = omega arith;
      small = omega arith;
      room = omega arith;
      free_room = omega (arith, c.pop.ensures.capacity);
    }

pub returns-in-Some-clause-held : goal.returns-in-Some-clause-held
returns-in-Some-clause-held c =
    padded-set c.self.inside.places 0 _ _ c.in-Some.place 1
    (top-inside _ _ _ _ c.self.invariant.stack c.in-Some.ensures.items) refl (length-set c.self.inside.counts.items c.in-Some.place 1)
    ∙ ap (λ places. set places.counts c.in-Some.place 1) c.self.view_is

pub returns-clause-held : goal.returns-clause-held
returns-clause-held c =
    padded-push c.self.inside.places 0 _ _ c.len-place.result 1
    (omega (arith, c.self.inside.counts.ok)) (omega (arith, c.self.invariant.few)) c.push_reserved.ensures.items
    ∙ ap (λ places. set places.counts c.len-place.result 1) c.self.view_is
