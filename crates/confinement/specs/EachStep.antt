-- What each step of a history is confined to, and what its steps leave alone.
use Rattle.std.specs.Prelude.{◌≡◌, ◌<◌, ℕ, false, List, ◌∷◌, ◌++◌}
use Rattle.kernel_core.specs.Machine.{Machine}
use Rattle.kernel_core.specs.Refused.{advanced_thread}
use Rattle.kernel_core.specs.Runs.{run}
use Rattle.kernel_core.specs.Start.{Inputs, start}
use Rattle.kernel_core.specs.Step.{guest_calls, step}
use Rattle.kernel_core.specs.declared.calling.TheConstants.{LW_SWITCH}
use Rattle.kernel_core.specs.declared.thread.Thread.{Thread}
use Rattle.lwc_base.specs.Cells.{slot_at}
use Rattle.lwc_base.specs.declared.descriptor.Cap.{Cap}
use Rattle.lwc_types.specs.declared.key.TheConstants.{SLOTS}
use Rattle.lwc_types.specs.declared.name.Name.{Name}
use Rattle.lwc_syscall.specs.Plain.{is_written}
use Rattle.confinement.specs.Closed.{IsClosed, IsOfJob, LeavesOthers, StayIn}
use Rattle.confinement.specs.Confined.{IsConfined}
use Rattle.confinement.specs.Faults.{EndsAlone}
use Rattle.confinement.specs.Fences.{Fence, LeavesOutside, StayInsideOrAway, StaysInside, fence_of}
use Rattle.confinement.specs.May.{IsGiven, MakesCall, world_of}
use Rattle.confinement.specs.Snapshots.{IsAsMade, IsResumed, IsUntouched, Makes}

-- the machine after these steps, and after one more
abbrev pub machine_after : Inputs → List ℕ → Machine
machine_after inputs steps = run (start inputs) steps

abbrev pub machine_made : Inputs → List ℕ → ℕ → Machine
machine_made inputs before t = step (machine_after inputs before) t

-- the machine after the steps since then
abbrev pub machine_since : Inputs → List ℕ → ℕ → List ℕ → Machine
machine_since inputs before t since = run (machine_made inputs before t) since

-- the fence of a context for a job, as it is after these steps
abbrev pub fence_after : Inputs → List ℕ → Name → ℕ → Fence
fence_after inputs steps c job = fence_of (world_of (machine_after inputs steps)) c job

-- of a history: each step is confined, and one that ends its thread by a fault ends that thread alone; a context that
-- a step makes by the call for it, and that is untouched for some steps, is then as it was made; a thread that enters
-- it by the next step goes on as it was made; steps that stay in a closed context leave the others, and where it has no
-- descriptor of the console or of a reply, they write nothing; and beside steps that stay away from its fence, each
-- step that is made inside leaves what is outside
pub record IsConfinedRun (inputs : Inputs) (steps : List ℕ) : Type 0 where
  pub each : (before rest : List ℕ) (t : ℕ) → steps ≡ before ++ t ∷ rest →
      IsConfined (machine_after inputs before) t (machine_made inputs before t)
  pub faults : (before rest : List ℕ) (t : ℕ) → steps ≡ before ++ t ∷ rest →
      EndsAlone (machine_after inputs before) (machine_made inputs before t) t
  pub snapshots : (before since rest : List ℕ) (t : ℕ) (c : Name) → steps ≡ before ++ t ∷ (since ++ rest) →
      Makes (machine_after inputs before) t c → IsUntouched (machine_made inputs before t) since c →
      IsAsMade (world_of (machine_made inputs before t)) (world_of (machine_since inputs before t since)) c
  pub resumed : (before since rest : List ℕ) (t u : ℕ) (c : Name) (x : Thread) (cap : Cap) →
      steps ≡ before ++ t ∷ (since ++ u ∷ rest) →
      Makes (machine_after inputs before) t c → IsUntouched (machine_made inputs before t) since c →
      MakesCall (machine_since inputs before t since) u x LW_SWITCH →
      IsGiven (machine_since inputs before t since) x c cap →
      IsResumed (world_of (machine_made inputs before t)) c (machine_since inputs before t since) x
      (guest_calls LW_SWITCH u (machine_since inputs before t since).environment
      (advanced_thread (machine_since inputs before t since) x))
  pub closed : (before during rest : List ℕ) (c : Name) → steps ≡ before ++ (during ++ rest) →
      IsClosed (world_of (machine_after inputs before)) c →
      StayIn (world_of (machine_after inputs before)) c (machine_after inputs before) during →
      LeavesOthers (world_of (machine_after inputs before)) (world_of (run (machine_after inputs before) during)) c
  pub silent : (before during rest : List ℕ) (c : Name) → steps ≡ before ++ (during ++ rest) →
      IsClosed (world_of (machine_after inputs before)) c →
      ((n : ℕ) → n < SLOTS → is_written (slot_at (world_of (machine_after inputs before)) c n) ≡ false) →
      StayIn (world_of (machine_after inputs before)) c (machine_after inputs before) during →
      (run (machine_after inputs before) during).environment.channels ≡
      (machine_after inputs before).environment.channels
  pub beside : (before during rest : List ℕ) (t : ℕ) (c : Name) (job : ℕ) → steps ≡ before ++ (during ++ t ∷ rest) →
      IsClosed (world_of (machine_after inputs before)) c → IsOfJob (machine_after inputs before) c job →
      StayInsideOrAway (fence_after inputs before c job) (machine_after inputs before) during →
      StaysInside (fence_after inputs before c job) (run (machine_after inputs before) during) t →
      LeavesOutside (fence_after inputs before c job) (world_of (run (machine_after inputs before) during))
      (world_of (step (run (machine_after inputs before) during) t))
