-- What is found under the number of a slot.
use Rattle.std.proofs.Common.{ℕ, arith}
use Rattle.std.proofs.lemmas.Bool.Decides.{nat_tests}
use Rattle.guest_call.specs.Guest.{descriptor_for}
use Rattle.lwc_base.specs.Cells.{slot_at}
use Rattle.lwc_base.specs.Channels.{Channels, IsInRange}
use Rattle.lwc_base.specs.World.{World}
use Rattle.lwc_types.specs.declared.name.Name.{Name}

-- what is found is in range, if what is in the slot is
pub found_in_range : (io : Channels) (w : World) (c : Name) (n : ℕ) → IsInRange io (slot_at w c n) → IsInRange io (descriptor_for w c n)
unfolding descriptor_for
found_in_range io w c n is = grind (arith, nat_tests)
