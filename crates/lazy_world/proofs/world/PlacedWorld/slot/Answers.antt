use Rattle.std.proofs.Common.{◌∙◌, ap, sym}
use Rattle.lwc_base.specs.Cells.{value_at, value_of}
use Rattle.lwc_base.specs.World.{Context}
use Rattle.lwc_types.specs.declared.key.Key.TheVariants.{Slot}
use Rattle.lazy_world.specs.Worlds.{parts, seen}
use Rattle.lazy_world.proofs.world.PlacedWorld.slot.Goals as goal

pub returns : goal.returns
unfolding value_at parts
returns c = record {
  value = c.slot_at.ensures ∙ ap (λ (x : Context). value_of (seen c.args.self.now) (Slot c.args.slot_number) (x.cell (Slot c.args.slot_number))) (sym c.place.ensures.context);
}
