-- What calls of guests have in common: the context that a slot names, a limit, the registers afterwards.
use Rattle.std.specs.Prelude.{ℕ, ◌+◌, ◌%◌, ◌^◌, ◌||◌, if◌then◌else◌, Bool, List, [], ◌∷◌, Option, None, Some}
use Rattle.std.specs.Prelude.{is_none, nat_lt, slice_set}
use Rattle.lwc_base.specs.declared.descriptor.Cap.{Cap}
use Rattle.lwc_base.specs.declared.descriptor.Descriptor.{Descriptor}
use Rattle.lwc_base.specs.declared.descriptor.Descriptor.TheVariants.{Empty, Ctx}
use Rattle.lwc_base.specs.Cells.{slot_at}
use Rattle.lwc_base.specs.Summaries.{is_empty}
use Rattle.lwc_base.specs.World.{World}
use Rattle.lwc_types.specs.declared.key.TheConstants.{SLOTS}
use Rattle.lwc_types.specs.declared.name.Name.{Name}
use Rattle.lwc_types.specs.declared.limits.TheConstants.{MOST_RANGES}
use Rattle.lwc_types.specs.declared.refusal.Refusal.{Refusal}
use Rattle.lwc_types.specs.declared.refusal.Refusal.TheVariants.{BadFd, WrongKind}
use Rattle.lwc_types.specs.declared.regs.Regs.{Regs}

-- what is in the slot of a number; nothing where no slot has that number
unfoldable pub descriptor_for : World → Name → ℕ → Descriptor
descriptor_for w c n = if nat_lt n SLOTS then slot_at w c n else Empty

-- the context that a descriptor is of, with its capability, if it is of one
abbrev pub link_of : Descriptor → Option (Name × Cap)
link_of (Ctx name cap) = Some (name, cap)
link_of _ = None

-- why a slot is refused to a call that takes a context: the first of these that holds
unfoldable pub slot_refusals : World → Name → ℕ → List (Bool × Refusal)
slot_refusals w c n =
    (is_empty (descriptor_for w c n), BadFd) ∷ (is_none (link_of (descriptor_for w c n)), WrongKind) ∷ []

-- the registers after a call that answers with a value: r0 has it, and the next instruction comes
abbrev pub with_answer : Regs → ℕ → Regs
with_answer regs value = record { r = slice_set regs.r 0 value; pc = (regs.pc + 1) % 2 ^ 64 }

-- whether one of two numbers of ranges is past the limit
abbrev pub are_too_many : ℕ × ℕ → Bool
are_too_many counts = nat_lt MOST_RANGES counts.0 || nat_lt MOST_RANGES counts.1
