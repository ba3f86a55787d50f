-- Each step of a run is confined, and snapshots that are left alone are as they were made.
use Rattle.std.proofs.Common.{◌≡◌, ◌<◌, ℕ, List, [], ◌∷◌, ◌++◌, Some, true, false, refl, sym, length}
use Rattle.std.specs.Prelude.{slice_get}
use Rattle.kernel_core.proofs.Others.{run-append}
use Rattle.kernel_core.proofs.ReadyMachines.{ready_machine}
use Rattle.kernel_core.specs.Kernel.{CanOpen}
use Rattle.kernel_core.specs.Refused.{advanced_thread}
use Rattle.kernel_core.specs.Runs.{run}
use Rattle.kernel_core.specs.Start.{Inputs, start}
use Rattle.kernel_core.specs.Step.{guest_calls, step}
use Rattle.kernel_core.specs.declared.calling.TheConstants.{LW_SWITCH}
use Rattle.kernel_core.specs.declared.thread.Thread.{Thread}
use Rattle.lwc_base.specs.declared.descriptor.Cap.{Cap}
use Rattle.lwc_types.specs.declared.name.Name.{Name}
use Rattle.confinement.proofs.Confining.{confined, ready_thread}
use Rattle.confinement.proofs.Faults.{ends_alone}
use Rattle.confinement.proofs.Fenced.{closed_fenced, closed_leaves, closed_silent, entered_closed, fenced, fenced_silent, kept_to, made_closed}
use Rattle.confinement.proofs.Snapshots.{as_made, goes_on_as_made}
use Rattle.confinement.specs.Closed.{IsClosed, IsOfJob, LeavesOthers, StayIn}
use Rattle.confinement.specs.Confined.{IsConfined}
use Rattle.confinement.specs.EachStep.{IsConfinedRun, fence_after, machine_after, machine_made}
use Rattle.confinement.specs.Fences.{Fence, fence_of, IsMute, KeepsTo, LeavesOutside, StayInside, StayInsideOrAway, StaysInside}
use Rattle.confinement.specs.May.{IsGiven, MakesCall, regs_at, world_of}
use Rattle.confinement.specs.Snapshots.{IsAsMade, IsResumed, IsUntouched, Makes}
use Rattle.lwc_base.specs.Life.{HasItsContexts}
use Rattle.lwc_base.specs.World.{is_live}
use Rattle.lwc_base.specs.declared.item.Mode.TheVariants.{Unmap}
use Rattle.lwc_base.specs.Modes.{mode_or_copy}
use Rattle.lwc_base.specs.Cells.{slot_at}
use Rattle.lwc_types.specs.declared.key.TheConstants.{SLOTS}
use Rattle.lwc_types.specs.declared.key.Key.TheVariants.{Slot}
use Rattle.lwc_create.specs.Create as create
use Rattle.lwc_syscall.specs.Plain.{is_written}

module _ (inputs : Inputs) (can : CanOpen inputs) where
  pub step_confined : (steps : List ℕ) (t : ℕ) → IsConfined (machine_after inputs steps) t (machine_made inputs steps t)
  step_confined steps t = confined inputs (length steps) (run (start inputs) steps) t (ready_machine inputs steps can)

  pub thread_lives : (steps : List ℕ) (t : ℕ) (x : Thread) → slice_get (machine_after inputs steps).threads t ≡ Some x → is_live (world_of (machine_after inputs steps)) x.context ≡ true
  thread_lives steps t x found = (ready_thread inputs (length steps) t (run (start inputs) steps) x (ready_machine inputs steps can) found).live

  pub slots_live : (steps : List ℕ) → HasItsContexts (world_of (machine_after inputs steps))
  slots_live steps = (ready_machine inputs steps can).named

  pub stays_as_made : (before since : List ℕ) (t : ℕ) (c : Name) → Makes (machine_after inputs before) t c → IsUntouched (machine_made inputs before t) since c →
      IsAsMade (world_of (machine_made inputs before t)) (world_of (run (machine_made inputs before t) since)) c
  stays_as_made before since t c made untouched = as_made inputs can (run (start inputs) before) (record { steps = before; is = refl }) t c made since untouched

  pub resumes_as_made : (before since : List ℕ) (t u : ℕ) (c : Name) (x : Thread) (cap : Cap) → Makes (machine_after inputs before) t c →
      IsUntouched (machine_made inputs before t) since c → MakesCall (run (machine_made inputs before t) since) u x LW_SWITCH →
      IsGiven (run (machine_made inputs before t) since) x c cap →
      IsResumed (world_of (machine_made inputs before t)) c (run (machine_made inputs before t) since) x
      (guest_calls LW_SWITCH u (run (machine_made inputs before t) since).environment (advanced_thread (run (machine_made inputs before t) since) x))
  resumes_as_made before since t u c x held made untouched calls given =
      goes_on_as_made inputs can (run (start inputs) before) (record { steps = before; is = refl }) t u c made since untouched x held calls given

  pub fences_leave : (before during : List ℕ) (f : Fence) → KeepsTo f (machine_after inputs before) → StayInside f (machine_after inputs before) during →
      LeavesOutside f (world_of (machine_after inputs before)) (world_of (run (machine_after inputs before) during)) × KeepsTo f (run (machine_after inputs before) during)
  fences_leave before during f = fenced inputs can f during (run (start inputs) before) (record { steps = before; is = refl })

  pub fences_silent : (before during : List ℕ) (f : Fence) → KeepsTo f (machine_after inputs before) → IsMute f (world_of (machine_after inputs before)) → StayInside f (machine_after inputs before) during →
      (run (machine_after inputs before) during).environment.channels ≡ (machine_after inputs before).environment.channels
  fences_silent before during f = fenced_silent inputs can f during (run (start inputs) before) (record { steps = before; is = refl })

  pub others_silent : (before during : List ℕ) (c : Name) → IsClosed (world_of (machine_after inputs before)) c →
      ((n : ℕ) → n < SLOTS → is_written (slot_at (world_of (machine_after inputs before)) c n) ≡ false) → StayIn (world_of (machine_after inputs before)) c (machine_after inputs before) during →
      (run (machine_after inputs before) during).environment.channels ≡ (machine_after inputs before).environment.channels
  others_silent before during c = closed_silent inputs can during (run (start inputs) before) (record { steps = before; is = refl }) c

  pub kept_beside : (before during : List ℕ) (f : Fence) → KeepsTo f (machine_after inputs before) → StayInsideOrAway f (machine_after inputs before) during → KeepsTo f (run (machine_after inputs before) during)
  kept_beside before during f = kept_to inputs can f during (run (start inputs) before) (record { steps = before; is = refl })

  pub leaves_beside : (before during : List ℕ) (t : ℕ) (f : Fence) → KeepsTo f (machine_after inputs before) → StayInsideOrAway f (machine_after inputs before) during →
      StaysInside f (run (machine_after inputs before) during) t →
      LeavesOutside f (world_of (run (machine_after inputs before) during)) (world_of (step (run (machine_after inputs before) during) t))
  leaves_beside before during t f keeps stay inside =
      (fenced inputs can f (t ∷ []) (run (run (start inputs) before) during) (record { steps = before ++ during; is = sym (run-append (start inputs) before during) })
      (kept_beside before during f keeps stay) (inside, tt)).0

  pub its_fence : (steps : List ℕ) (c : Name) (job : ℕ) → IsClosed (world_of (machine_after inputs steps)) c → IsOfJob (machine_after inputs steps) c job →
      KeepsTo (fence_of (world_of (machine_after inputs steps)) c job) (machine_after inputs steps)
  its_fence steps c job = closed_fenced inputs can (run (start inputs) steps) (record { steps = steps; is = refl }) c job

  pub inside_leaves : (before during : List ℕ) (t : ℕ) (c : Name) (job : ℕ) → IsClosed (world_of (machine_after inputs before)) c → IsOfJob (machine_after inputs before) c job →
      StayInsideOrAway (fence_after inputs before c job) (machine_after inputs before) during → StaysInside (fence_after inputs before c job) (run (machine_after inputs before) during) t →
      LeavesOutside (fence_after inputs before c job) (world_of (run (machine_after inputs before) during)) (world_of (step (run (machine_after inputs before) during) t))
  inside_leaves before during t c job closed of_job = leaves_beside before during t (fence_after inputs before c job) (its_fence before c job closed of_job)

  pub others_left : (before during : List ℕ) (c : Name) → IsClosed (world_of (machine_after inputs before)) c → StayIn (world_of (machine_after inputs before)) c (machine_after inputs before) during →
      LeavesOthers (world_of (machine_after inputs before)) (world_of (run (machine_after inputs before) during)) c
  others_left before during c = closed_leaves inputs can during (run (start inputs) before) (record { steps = before; is = refl }) c

  pub enters_closed : (steps : List ℕ) (t : ℕ) (x : Thread) (c : Name) (cap : Cap) → IsClosed (world_of (machine_after inputs steps)) c → MakesCall (machine_after inputs steps) t x LW_SWITCH →
      IsGiven (machine_after inputs steps) x c cap → is_live (world_of (machine_made inputs steps t)) c ≡ true → IsClosed (world_of (machine_made inputs steps t)) c
  enters_closed steps t x c cap = entered_closed inputs can (run (start inputs) steps) (record { steps = steps; is = refl }) t x c cap

  pub closed_as_made : (before since : List ℕ) (t : ℕ) (c : Name) → (made : Makes (machine_after inputs before) t c) →
      ((n : ℕ) → n < SLOTS → mode_or_copy (create.items_of (world_of (machine_after inputs before)) made.thread.context (regs_at (machine_after inputs before) made.thread)) (Slot n) ≡ Unmap) →
      IsUntouched (machine_made inputs before t) since c → IsClosed (world_of (run (machine_made inputs before t) since)) c
  closed_as_made before since t c made none = made_closed inputs can (run (start inputs) before) (record { steps = before; is = refl }) t c made since none

  -- all of it, for each beginning of a list of steps
  pub run_confined : (steps : List ℕ) → IsConfinedRun inputs steps
  run_confined steps = record {
    each = λ before rest t is. step_confined before t;
    faults = λ before rest t is. ends_alone (machine_after inputs before) t;
    snapshots = λ before since rest t c is. stays_as_made before since t c;
    resumed = λ before since rest t u c x held is. resumes_as_made before since t u c x held;
    closed = λ before during rest c is. others_left before during c;
    silent = λ before during rest c is. others_silent before during c;
    beside = λ before during rest t c job is. inside_leaves before during t c job;
  }
