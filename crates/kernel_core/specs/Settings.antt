-- Settings within their limits.
use Rattle.std.specs.Prelude.{◌≤◌}
use Rattle.kernel_core.specs.declared.settings.Job.{Job}
use Rattle.kernel_core.specs.declared.settings.Job.TheVariants.{Run, Serve}
use Rattle.kernel_core.specs.declared.settings.Settings.{Settings}
use Rattle.lwc_types.specs.declared.limits.TheConstants.{MOST_BUDGET, MOST_FRAMES, MOST_THREADS}

-- a serve has 1 to 16 workers
abbrev pub IsJob : Job → Type 0
IsJob Run = Unit {0}
IsJob (Serve workers) = (1 ≤ workers) × (workers ≤ MOST_THREADS)

-- the frames, the steps of a thread and the workers are within their limits
pub record IsSettings (settings : Settings) : Type 0 where
  pub frames : (1 ≤ settings.frames) × (settings.frames ≤ MOST_FRAMES)
  pub budget : (1 ≤ settings.budget) × (settings.budget ≤ MOST_BUDGET)
  pub job : IsJob settings.job
