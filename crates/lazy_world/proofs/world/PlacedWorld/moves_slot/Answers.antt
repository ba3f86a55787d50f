use Rattle.std.proofs.Common.{ap}
use Rattle.std.specs.Prelude.{unwrap_or}
use Rattle.lwc_base.specs.declared.item.Mode.TheVariants.{Copy}
use Rattle.lwc_base.specs.Sharing.{is_moved}
use Rattle.lwc_types.specs.declared.key.Key.TheVariants.{Slot}
use Rattle.lazy_world.specs.Seen.{rows}
use Rattle.lazy_world.proofs.world.PlacedWorld.moves_slot.Goals as goal

pub returns-then-not-names_slots-clause-none : goal.returns-then-not-names_slots-clause-none
returns-then-not-names_slots-clause-none c = λ _ n low.
    ap (λ m. is_moved (unwrap_or m Copy) (Slot n) (rows c.args.self.now.places c.args.place (Slot n))) (c.names_slots.ensures c.if-not-names_slots.true n)
