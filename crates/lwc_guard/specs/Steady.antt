-- What a run under guards keeps true of itself.
use Rattle.std.specs.Prelude.{◌≡◌, ℕ, ◌-◌, ◌+◌, ◌≤◌, ◌++◌, ◌∷◌, [], if◌then◌else◌, None, Option, length, slice_get}
use Rattle.std.specs.Option.{option_map}
use Rattle.kernel_core.specs.Kernel.{CanOpen, History, turn_of}
use Rattle.kernel_core.specs.Machine.{is_ended}
use Rattle.kernel_core.specs.declared.settings.Job.TheVariants as job
use Rattle.kernel_core.specs.declared.thread.Turn.{Turn}
use Rattle.lwc_types.specs.declared.limits.TheConstants.{MOST_STEPS}
use Rattle.lwc_guard.specs.Reports.{begun}
use Rattle.lwc_guard.specs.Steps.{Guarded, peak_guarded, run_guarded}

-- what a history under guards has come to
unfoldable pub state_of : History → Guarded
state_of h = run_guarded (begun h.inputs) h.steps

-- the history after one step of a thread: the step is kept, and takes room, unless the thread had ended
unfoldable pub stepped_guarded : History → ℕ → History
stepped_guarded h t =
    if is_ended (state_of h).machine t then h else record h { steps = h.steps ++ t ∷ []; room = h.room - 1 }

-- what the last step of a thread left
unfoldable pub turn_guarded : History → ℕ → Option Turn
turn_guarded h t = option_map (λ x. turn_of x None) (slice_get (state_of h).machine.threads t)

-- the parts of a run under guards are what its history has come to, and its peak is that of the steps
pub record IsSteady (s : Guarded) (most_used : ℕ) (h : History) : Type 0 where
  pub inputs : CanOpen h.inputs
  pub run : h.inputs.settings.job ≡ job.Run
  pub state : s ≡ state_of h
  pub peak : most_used ≡ peak_guarded (begun h.inputs) h.steps
  pub room : length h.steps + h.room ≤ MOST_STEPS
