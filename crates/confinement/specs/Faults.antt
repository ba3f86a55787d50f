-- Threads that end by a fault.
use Rattle.std.specs.Prelude.{◌≡◌, ◌≢◌, ℕ, Some, slice_get, true}
use Rattle.confinement.specs.May.{world_of}
use Rattle.guest_machine.specs.Advances.{advanced}
use Rattle.kernel_core.specs.Machine.{Machine}
use Rattle.kernel_core.specs.Step.{advance_outcome, guest_calls}
use Rattle.kernel_core.specs.declared.thread.Thread.{Thread}
use Rattle.lwc_base.specs.Cells.{value_at}
use Rattle.lwc_base.specs.Modes.{IsKey}
use Rattle.lwc_base.specs.World.{context, is_live}
use Rattle.lwc_types.specs.declared.fault.Fault.{Fault}
use Rattle.lwc_types.specs.declared.fault.Fault.TheVariants.{Budget}
use Rattle.lwc_types.specs.declared.fault.ThreadStatus.TheVariants.{Faulted, Running}
use Rattle.lwc_types.specs.declared.key.Key.{Key}
use Rattle.lwc_types.specs.declared.name.Name.{Name}

-- the next step of a running thread ends it by a fault, which is not that its budget is used up
pub record EndsByFault (m : Machine) (t : ℕ) (x : Thread) : Type 0 where
  pub found : slice_get m.threads t ≡ Some x
  pub running : x.status ≡ Running
  pub fault : Fault
  pub other : fault ≢ Budget
  pub ends : (advance_outcome guest_calls t m.environment x (advanced m.text x.regs)).thread.status ≡ Faulted fault

-- a step of a thread leaves the other threads as they are; and where it ends its own by a fault, each context that
-- lives on is the same, and each value
pub record EndsAlone (m after : Machine) (t : ℕ) : Type 0 where
  pub others : (u : ℕ) → t ≢ u → slice_get after.threads u ≡ slice_get m.threads u
  pub contexts : (x : Thread) (e : Name) → EndsByFault m t x → is_live (world_of after) e ≡ true →
      context (world_of after) e ≡ context (world_of m) e
  pub values : (x : Thread) (e : Name) (k : Key) → EndsByFault m t x → is_live (world_of after) e ≡ true →
      IsKey (world_of m).size.pages k → value_at (world_of after) e k ≡ value_at (world_of m) e k
