-- Runs under guards keep what is promised.
use Rattle.std.proofs.Common.{◌≡◌, ◌+◌, ℕ, List, length}
use Rattle.kernel_core.specs.Kernel.{CanOpen}
use Rattle.kernel_core.specs.Start.{Inputs}
use Rattle.kernel_core.specs.declared.settings.Job.TheVariants as job
use Rattle.lwc_guard.proofs.Keeping.{kept-after}
use Rattle.lwc_guard.proofs.Plain.{plain_text}
use Rattle.lwc_guard.proofs.Returns.{leaves-guarded}
use Rattle.lwc_guard.specs.Promises.{AreGivenBack, IsGuardedRun}
use Rattle.lwc_guard.specs.Reports.{begun}
use Rattle.lwc_guard.specs.Steps.{kept_guarded, run_guarded}

pub are_given_back : (inputs : Inputs) (steps : List ℕ) → CanOpen inputs → inputs.settings.job ≡ job.Run → AreGivenBack inputs steps
are_given_back inputs steps can run = record {
  live = λ before rest d m is found. (kept-after inputs before can run).live d m found;
  trapped = λ before rest is. (kept-after inputs before can run).trapped;
  given_back = λ before rest t x g m is found running guarded trapped.
      leaves-guarded inputs (0 + length before) (run_guarded (begun inputs) before) t (kept-after inputs before can run) x g m found running guarded trapped;
}

pub guarded_run : (inputs : Inputs) (schedule : List ℕ) → CanOpen inputs → inputs.settings.job ≡ job.Run → IsGuardedRun inputs schedule
guarded_run inputs schedule can run = record {
  steps = are_given_back inputs (kept_guarded (begun inputs) schedule) can run;
  plain = plain_text inputs schedule;
}
