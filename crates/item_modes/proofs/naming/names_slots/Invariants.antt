use Rattle.std.proofs.Common.{◌≡◌, ℕ, None, take}
use Rattle.lwc_base.specs.Modes.{mode}
use Rattle.lwc_types.specs.declared.key.Key.TheVariants.{Slot}
use Rattle.item_modes.proofs.naming.names_slots.Given as goal

abbrev pub invariant-loop-item : goal.invariant-loop-item
invariant-loop-item l = record { unnamed : (n : ℕ) → mode (take l.item-index l.item-items) (Slot n) ≡ None }
