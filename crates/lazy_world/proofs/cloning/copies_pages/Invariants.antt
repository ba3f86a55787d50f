use Rattle.std.proofs.Common.{◌≡◌, ℕ, take}
use Rattle.lwc_base.specs.declared.item.Mode.TheVariants.{Copy}
use Rattle.lwc_base.specs.Modes.{mode_or_copy}
use Rattle.lwc_types.specs.declared.key.Key.TheVariants.{Page}
use Rattle.lazy_world.proofs.cloning.copies_pages.Given as goal

abbrev pub invariant-loop-item : goal.invariant-loop-item
invariant-loop-item l = record { copied : (q : ℕ) → mode_or_copy (take l.item-index l.item-items) (Page q) ≡ Copy }
