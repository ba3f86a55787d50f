use Rattle.std.proofs.Common.{◌≡◌, ap, refl, ◌∙◌, Some}
use Rattle.lwc_base.specs.declared.cell.Cell.{Cell}
use Rattle.lwc_base.specs.declared.cell.Cell.TheVariants.{Own, Common}
use Rattle.lwc_base.specs.declared.descriptor.Lent.{Lent}
use Rattle.fd_table.specs.Slots.{cell_of}
use Rattle.lwc_types.specs.declared.key.Key.TheVariants.{Slot}
use Rattle.lazy_world.specs.Transfers.{owner}
use Rattle.lazy_world.specs.Seen.{rows}
use Rattle.lazy_world.proofs.world.PlacedWorld.found_slot.Goals as goal

owner_lent : (cell : Cell Lent) → owner cell ≡ owner (cell_of cell)
owner_lent (Own value) = refl
owner_lent (Common g) = refl

pub returns : goal.returns
returns c = c.found.ensures.found (Slot c.args.slot) (rows c.args.self.now.places c.args.place (Slot c.args.slot)) (ap Some (c.owner.ensures ∙ owner_lent c.slot.result ∙ ap owner c.slot.ensures))
