-- What is promised of trapped contexts, of each step of a run.
use Rattle.std.specs.Prelude.{◌≡◌, ◌≢◌, ◌⊎◌, ℕ, List, ◌∷◌, ◌++◌, Some, slice_get, true}
use Rattle.std.specs.FinMap as fm
use Rattle.kernel_core.specs.Refused.{advanced_thread}
use Rattle.kernel_core.specs.Runs.{run}
use Rattle.kernel_core.specs.Start.{Inputs, start}
use Rattle.kernel_core.specs.declared.thread.Thread.{Thread}
use Rattle.lwc_base.specs.World.{is_live}
use Rattle.lwc_types.specs.declared.name.Name.{Name}
use Rattle.lwc_monitor.specs.Calls.{calls_under, trapped_outcome}
use Rattle.lwc_monitor.specs.Contexts.{IsIn, LeavesAllBut, LeavesContexts}
use Rattle.lwc_monitor.specs.Guards.{AreGuarded, HasOwnSlots, SameSlots}
use Rattle.lwc_monitor.specs.Reports.{begun, monitored_text}
use Rattle.lwc_monitor.specs.Steps.{Monitored, call_of, kept_under, monitored_step, run_under}
use Rattle.lwc_monitor.specs.declared.numbers.TheConstants.{EXIT, LW_TRAP}
use Rattle.lwc_text.specs.Report.{report_of_schedule}

-- a step leaves a context that is trapped by a monitor: its slots are its own before and after, and none has
-- changed unless the thread was in the monitor; and a thread in the context makes no call but an exit: each
-- other one takes it to the monitor, or is refused
pub record LeavesTrapped (s after : Monitored) (t : ℕ) (d m : Name) : Type 0 where
  pub owned : HasOwnSlots s.machine.environment.world d
  pub own : HasOwnSlots after.machine.environment.world d
  pub same : IsIn s.machine t m ⊎ SameSlots s.machine.environment.world after.machine.environment.world d
  pub calls : (x : Thread) (number : ℕ) → slice_get s.machine.threads t ≡ Some x → x.context ≡ d →
      call_of s.machine x ≡ Some number → number ≢ EXIT →
      calls_under s.traps number t s.machine.environment (advanced_thread s.machine x)
      ≡ trapped_outcome m number t s.machine.environment (advanced_thread s.machine x)

-- so does it leave each trapped context that lives after it
abbrev pub LeavesEachTrapped : Monitored → ℕ → Type 0
LeavesEachTrapped s t =
    (d m : Name) → fm.get s.traps d ≡ Some m →
    let after = monitored_step s t in
    is_live after.machine.environment.world d ≡ true → LeavesTrapped s after t d m

-- no step of these comes to the call that traps a context
abbrev pub TrapsNone : Inputs → List ℕ → Type 0
TrapsNone inputs steps = (before rest : List ℕ) (t : ℕ) (x : Thread) → steps ≡ before ++ t ∷ rest →
    slice_get (run (start inputs) before).threads t ≡ Some x →
    call_of (run (start inputs) before) x ≢ Some LW_TRAP

-- of steps under traps: after any of them each trapped context lives and has its own slots, and no monitor is
-- trapped; each step leaves the trapped contexts, and of all contexts what it should; by itself a trapped context
-- changes only values of its pages
pub record AreMonitored (inputs : Inputs) (steps : List ℕ) : Type 0 where
  pub guarded : (before rest : List ℕ) → steps ≡ before ++ rest →
      let s = run_under (begun inputs) before in AreGuarded s.traps s.machine.environment.world
  pub leaves : (before rest : List ℕ) (t : ℕ) → steps ≡ before ++ t ∷ rest →
      LeavesEachTrapped (run_under (begun inputs) before) t
  pub contexts : (before rest : List ℕ) (t : ℕ) → steps ≡ before ++ t ∷ rest →
      let s = run_under (begun inputs) before in LeavesContexts s (monitored_step s t) t
  pub trapped : (before rest : List ℕ) (t : ℕ) (x : Thread) (m : Name) → steps ≡ before ++ t ∷ rest →
      let s = run_under (begun inputs) before in
      slice_get s.machine.threads t ≡ Some x → fm.get s.traps x.context ≡ Some m →
      LeavesAllBut s (monitored_step s t).machine t x m

-- of a run of a schedule under traps: the steps that it keeps are monitored; and where none of them comes to the
-- call that traps, the text is the kernel's for the schedule
pub record IsMonitoredRun (inputs : Inputs) (schedule : List ℕ) : Type 0 where
  pub steps : AreMonitored inputs (kept_under (begun inputs) schedule)
  pub plain : TrapsNone inputs (kept_under (begun inputs) schedule) →
      monitored_text inputs schedule ≡ report_of_schedule inputs schedule
