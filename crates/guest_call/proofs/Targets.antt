-- The context that a slot names.
use Rattle.std.proofs.Common.{◌≡◌, ◌∙◌, ◌<◌, ℕ, true, Some, ap, arith}
use Rattle.guest_call.specs.Guest.{descriptor_for, link_of}
use Rattle.lwc_base.specs.declared.descriptor.Cap.{Cap}
use Rattle.lwc_base.specs.declared.descriptor.Descriptor.TheVariants.{Ctx}
use Rattle.lwc_base.specs.Cells.{slot_at}
use Rattle.lwc_base.specs.Life.{is_of, links}
use Rattle.lwc_base.specs.World.{World}
use Rattle.lwc_base.proofs.Slots.{slot_links}
use Rattle.lwc_types.specs.declared.key.TheConstants.{SLOTS}
use Rattle.lwc_types.specs.declared.name.Name.{Name}
use Rattle.lwc_types.proofs.Orders.{name-itself}

-- what is found under a number is a slot's descriptor
pub in_slot : (w : World) (c : Name) (n : ℕ) (link : Name × Cap) → link_of (descriptor_for w c n) ≡ Some link → (n < SLOTS) × (slot_at w c n ≡ Ctx link.0 link.1)
unfolding descriptor_for
in_slot w c n link is = grind arith

-- a context whose slot has a descriptor of another one links to it
pub target_links : (w : World) (c : Name) (n : ℕ) (link : Name × Cap) → link_of (descriptor_for w c n) ≡ Some link → links w c link.0 ≡ true
target_links w c n link is = let at = in_slot w c n link is in slot_links w c link.0 n at.0 (ap (is_of link.0) at.1 ∙ name-itself link.0)
