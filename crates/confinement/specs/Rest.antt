-- What a law of confined steps says of the step before it.
use Rattle.std.specs.Prelude.{◌≡◌, ◌≢◌, ◌<◌, ℕ, false}
use Rattle.kernel_core.specs.Machine.{Machine}
use Rattle.kernel_core.specs.declared.calling.TheConstants.{LW_OVERLAY, LW_SWITCH, LW_SYSCALL}
use Rattle.kernel_core.specs.declared.thread.Thread.{Thread}
use Rattle.lwc_base.specs.declared.descriptor.Cap.{Cap}
use Rattle.lwc_base.specs.declared.descriptor.Descriptor.TheVariants.{Ctx}
use Rattle.lwc_base.specs.Capabilities.{has_key}
use Rattle.lwc_base.specs.Cells.{slot_at}
use Rattle.lwc_base.specs.World.{World, next_context}
use Rattle.lwc_types.specs.declared.key.TheConstants.{SLOTS}
use Rattle.lwc_types.specs.declared.key.Key.{Key}
use Rattle.lwc_types.specs.declared.name.Name.{Name}
use Rattle.confinement.specs.May.{MakesCall}

-- the next step of a thread is none of the three accepted calls that reach another context
abbrev pub ReachesNoOther : Machine → ℕ → Type 0
ReachesNoOther m t = (number : ℕ) (x : Thread) → MakesCall m t x number →
    (number ≢ LW_SWITCH) × (number ≢ LW_OVERLAY) × (number ≢ LW_SYSCALL)

-- no slot has a capability with this key for a context, and this is not one that a call would make next
pub record LacksKey (w : World) (d : Name) (k : Key) : Type 0 where
  pub slots : (e : Name) (n : ℕ) (cap : Cap) → n < SLOTS → slot_at w e n ≡ Ctx d cap → has_key cap k ≡ false
  pub old : (job : ℕ) → d ≢ next_context w job
