-- What is kept true of trapped contexts, and what calls leave of them.
use Rattle.std.specs.Prelude.{◌≡◌, ◌<◌, ◌⊎◌, ℕ, Some, false, true}
use Rattle.std.specs.FinMap as fm
use Rattle.lwc_base.specs.World.{World, context, is_live}
use Rattle.lwc_base.specs.declared.cell.Cell.TheVariants.{Own}
use Rattle.lwc_base.specs.declared.descriptor.Descriptor.{Descriptor}
use Rattle.lwc_types.specs.declared.key.TheConstants.{SLOTS}
use Rattle.lwc_types.specs.declared.key.Key.TheVariants.{Slot}
use Rattle.lwc_types.specs.declared.name.Name.{Name}
use Rattle.lwc_monitor.specs.Traps.{Traps, is_trapped}

-- each slot of a context is its own
abbrev pub HasOwnSlots : World → Name → Type 0
HasOwnSlots w d = (n : ℕ) → n < SLOTS → (value : Descriptor) × ((context w d).cell (Slot n) ≡ Own value)

-- no slot of a context has changed
abbrev pub SameSlots : World → World → Name → Type 0
SameSlots w v d = (n : ℕ) → n < SLOTS → (context v d).cell (Slot n) ≡ (context w d).cell (Slot n)

-- each trapped context lives and has its own slots, and no monitor is trapped
pub record AreGuarded (traps : Traps) (w : World) : Type 0 where
  pub live : (d m : Name) → fm.get traps d ≡ Some m → is_live w d ≡ true
  pub own : (d m : Name) → fm.get traps d ≡ Some m → HasOwnSlots w d
  pub free : (d m : Name) → fm.get traps d ≡ Some m → is_trapped traps m ≡ false

-- the slots of each trapped context stay its own, and none changes, unless its monitor is this context
pub record LeavesToMonitors (traps : Traps) (c : Name) (w v : World) : Type 0 where
  pub own : (d m : Name) → fm.get traps d ≡ Some m → HasOwnSlots v d
  pub same : (d m : Name) → fm.get traps d ≡ Some m → (m ≡ c) ⊎ SameSlots w v d
