-- Runs under traps keep what is promised.
use Rattle.std.proofs.Common.{◌≡◌, ◌+◌, ℕ, ap, Some, List, length}
use Rattle.std.specs.FinMap as fm
use Rattle.kernel_core.proofs.HomeStart.{ready_start}
use Rattle.kernel_core.specs.Kernel.{CanOpen}
use Rattle.kernel_core.specs.Start.{Inputs, serve_at, start}
use Rattle.kernel_core.specs.declared.settings.Job.{Job}
use Rattle.kernel_core.specs.declared.settings.Job.TheVariants as job
use Rattle.lwc_base.specs.World.{World}
use Rattle.lwc_types.specs.Names.{name_cmp}
use Rattle.lwc_types.specs.declared.name.Name.{Name}
use Rattle.lwc_monitor.proofs.Keeping.{IsKept, kept-run, leaves-step}
use Rattle.lwc_monitor.proofs.Plain.{plain_text}
use Rattle.lwc_monitor.proofs.TrappedStepping.{leaves_contexts, trapped_step}
use Rattle.lwc_monitor.specs.Guards.{AreGuarded}
use Rattle.lwc_monitor.specs.Promises.{AreMonitored, IsMonitoredRun}
use Rattle.lwc_monitor.specs.Reports.{begun}
use Rattle.lwc_monitor.specs.Steps.{kept_under, run_under}

none_guarded : (w : World) → AreGuarded fm.empty w
none_guarded w = record {
  live = λ d m is. absurd (nothing d m is);
  own = λ d m is. absurd (nothing d m is);
  free = λ d m is. absurd (nothing d m is);
}
  where
    nothing : (d m : Name) → fm.get (fm.empty {K = Name} {X = Name} {R = name_cmp}) d ≡ Some m → ⊥
    nothing d m is = let none = fm.get-empty {X = Name} name_cmp d in cc

-- what is kept is true at the start
pub kept-start : (inputs : Inputs) → CanOpen inputs → inputs.settings.job ≡ job.Run → IsKept inputs 0 (begun inputs)
unfolding start
kept-start inputs can run = record {
  ready = ready_start inputs can;
  run = ap (λ (j : Job). serve_at j inputs.settings.budget (length inputs.requests)) run;
  guarded = none_guarded _;
}

-- and after each list of steps
pub kept-after : (inputs : Inputs) (steps : List ℕ) → CanOpen inputs → inputs.settings.job ≡ job.Run → IsKept inputs (0 + length steps) (run_under (begun inputs) steps)
kept-after inputs steps can run = kept-run inputs 0 steps (begun inputs) (kept-start inputs can run)

pub are_monitored : (inputs : Inputs) (steps : List ℕ) → CanOpen inputs → inputs.settings.job ≡ job.Run → AreMonitored inputs steps
are_monitored inputs steps can run = record {
  guarded = λ before rest is. (kept-after inputs before can run).guarded;
  leaves = λ before rest t is. leaves-step inputs (0 + length before) (run_under (begun inputs) before) t (kept-after inputs before can run);
  contexts = λ before rest t is. leaves_contexts inputs (0 + length before) (run_under (begun inputs) before) t (kept-after inputs before can run);
  trapped = λ before rest t x m is found trapped. trapped_step inputs (0 + length before) (run_under (begun inputs) before) t (kept-after inputs before can run) x found m trapped;
}

pub monitored_run : (inputs : Inputs) (schedule : List ℕ) → CanOpen inputs → inputs.settings.job ≡ job.Run → IsMonitoredRun inputs schedule
monitored_run inputs schedule can run = record {
  steps = are_monitored inputs (kept_under (begun inputs) schedule) can run;
  plain = plain_text inputs schedule;
}
