use Rattle.std.proofs.Common.{refl, sym, subst, ◌∙◌}
use Rattle.lazy_world.specs.Transfers.{CanGet}
use Rattle.lazy_world.specs.Seen.{count, rows}
use Rattle.lazy_world.specs.Origins.{slot_origin}
use Rattle.lazy_world.proofs.TakeLemmas.{slot-taken, slots-none}
use Rattle.lazy_world.proofs.places.Places.take_slots.Goals as goal

pub loop-n-init : goal.loop-n-init
loop-n-init c = record { rows = slots-none (count c.args.self.now) (rows c.args.self.now) c.args.place c.args.origins.now c.requires.given; count = refl; frames = refl; store = record { rights = refl; nodes = refl; steps = refl; free = refl; pool = refl } }

pub take_slot-requires-clause-given : goal.take_slot-requires-clause-given
take_slot-requires-clause-given c =
    subst (λ n. CanGet n c.args.place (slot_origin c.args.origins.now c.loop-n.n)) (sym c.loop-n.invariant.count) (c.requires.given c.loop-n.n c.loop-n-test.true)

pub loop-n-preserved : goal.loop-n-preserved
loop-n-preserved c = record {
  rows = c.take_slot.ensures.rows
      ∙ slot-taken (count c.args.self.now) (rows c.args.self.now) c.args.place c.args.origins.now c.requires.given c.loop-n.n c.loop-n-test.true (rows c.loop-n.self) c.loop-n.invariant.rows;
  count = c.take_slot.ensures.count ∙ c.loop-n.invariant.count;
  frames = c.take_slot.ensures.frames ∙ c.loop-n.invariant.frames;
  store = record {
    rights = c.take_slot.ensures.store.rights ∙ c.loop-n.invariant.store.rights;
    nodes = c.take_slot.ensures.store.nodes ∙ c.loop-n.invariant.store.nodes;
    steps = c.take_slot.ensures.store.steps ∙ c.loop-n.invariant.store.steps;
    free = c.take_slot.ensures.store.free ∙ c.loop-n.invariant.store.free;
    pool = c.take_slot.ensures.store.pool ∙ c.loop-n.invariant.store.pool;
  };
}
