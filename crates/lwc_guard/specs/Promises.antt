-- What is promised of guarded contexts, of each step of a run.
use Rattle.std.specs.Prelude.{◌≡◌, ◌≢◌, ◌⊎◌, ◌-◌, ◌≤◌, ℕ, List, ◌∷◌, ◌++◌, None, Some, false, slice_get, true}
use Rattle.std.specs.FinMap as fm
use Rattle.kernel_core.specs.Machine.{Machine}
use Rattle.kernel_core.specs.Start.{Inputs}
use Rattle.kernel_core.specs.declared.thread.Thread.{Thread}
use Rattle.lwc_base.specs.Slots.{lowest_empty}
use Rattle.lwc_base.specs.World.{is_live}
use Rattle.lwc_guard.specs.Guards.{Guards}
use Rattle.lwc_guard.specs.Reports.{begun, fuel_of, guarded_text}
use Rattle.lwc_guard.specs.Steps.{Guarded, guarded_step, kept_guarded, run_guarded}
use Rattle.lwc_guard.specs.declared.guard.Guard.{Guard}
use Rattle.lwc_guard.specs.declared.numbers.TheConstants.{LW_FUEL}
use Rattle.lwc_monitor.specs.Contexts.{IsIn}
use Rattle.lwc_monitor.specs.Reports.{monitored_text}
use Rattle.lwc_monitor.specs.Reports as monitored
use Rattle.lwc_monitor.specs.Steps.{call_of, kept_under, run_under}
use Rattle.lwc_monitor.specs.Traps.{Traps, is_trapped}
use Rattle.lwc_types.specs.declared.fault.ThreadStatus.TheVariants as status
use Rattle.lwc_types.specs.declared.name.Name.{Name}

-- each guarded context is trapped
abbrev pub AreTrapped : Traps → Guards → Type 0
AreTrapped traps guards = (d : Name) → fm.contains_key guards d ≡ true → is_trapped traps d ≡ true

-- the thread of a number runs in a context
abbrev pub RunsIn : Machine → ℕ → Name → Type 0
RunsIn m t c = (y : Thread) × (slice_get m.threads t ≡ Some y) × (y.context ≡ c) × (y.status ≡ status.Running)

-- a thread of a context with this monitor may be ended: it has one step left, or the monitor does not live, or has no
-- empty slot
abbrev pub MayEnd : Guarded → Thread → Name → Type 0
MayEnd s x m =
    (x.budget ≡ 1) ⊎ ((is_live s.machine.environment.world m ≡ false) ⊎ (lowest_empty s.machine.environment.world m ≡ None))

-- a step that a running thread makes in a guarded context leaves it in the monitor; or running there, with one less of
-- fuel and the same monitor; or the thread may be ended
pub data LeavesGuarded (s after : Guarded) (t : ℕ) (x : Thread) (g : Guard) (m : Name) : Type 0 where
  InTheMonitor : IsIn after.machine t m → LeavesGuarded s after t x g m
  GoesOn : 1 ≤ g.fuel → RunsIn after.machine t x.context → fuel_of after.guards x.context ≡ Some (g.fuel - 1) →
      fm.get after.traps x.context ≡ Some m → LeavesGuarded s after t x g m
  Ends : MayEnd s x m → LeavesGuarded s after t x g m

-- of steps under guards: after any of them each trapped context lives, and each guarded one is trapped; and a step in
-- a guarded context is given back, or uses fuel
pub record AreGivenBack (inputs : Inputs) (steps : List ℕ) : Type 0 where
  pub live : (before rest : List ℕ) (d m : Name) → steps ≡ before ++ rest →
      let s = run_guarded (begun inputs) before in
      fm.get s.traps d ≡ Some m → is_live s.machine.environment.world d ≡ true
  pub trapped : (before rest : List ℕ) → steps ≡ before ++ rest →
      let s = run_guarded (begun inputs) before in AreTrapped s.traps s.guards
  pub given_back : (before rest : List ℕ) (t : ℕ) (x : Thread) (g : Guard) (m : Name) → steps ≡ before ++ t ∷ rest →
      let s = run_guarded (begun inputs) before in
      slice_get s.machine.threads t ≡ Some x → x.status ≡ status.Running → fm.get s.guards x.context ≡ Some g →
      fm.get s.traps x.context ≡ Some m → LeavesGuarded s (guarded_step s t) t x g m

-- no step of these comes to the call that gives fuel
abbrev pub FuelsNone : Inputs → List ℕ → Type 0
FuelsNone inputs steps = (before rest : List ℕ) (t : ℕ) (x : Thread) → steps ≡ before ++ t ∷ rest →
    let m = (run_under (monitored.begun inputs) before).machine in
    slice_get m.threads t ≡ Some x → call_of m x ≢ Some LW_FUEL

-- of a run of a schedule under guards: the steps that it keeps are given back where they should; and where none of
-- those that it keeps under traps comes to the call that gives fuel, the text is that under traps
pub record IsGuardedRun (inputs : Inputs) (schedule : List ℕ) : Type 0 where
  pub steps : AreGivenBack inputs (kept_guarded (begun inputs) schedule)
  pub plain : FuelsNone inputs (kept_under (monitored.begun inputs) schedule) →
      guarded_text inputs schedule ≡ monitored_text inputs schedule
