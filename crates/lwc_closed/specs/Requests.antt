-- Fences in a serve: over the contexts of one request, while steps of other requests are made between.
use Rattle.std.specs.Prelude.{◌≡◌, ◌≢◌, ◌⊎◌, ℕ, true, List, [], ◌∷◌, Some, slice_get}
use Rattle.confinement.specs.Fences.{Fence, StaysInside}
use Rattle.kernel_core.specs.Machine.{Machine}
use Rattle.kernel_core.specs.Step.{step}
use Rattle.kernel_core.specs.declared.thread.Thread.{Thread}
use Rattle.lwc_types.specs.declared.key.Key.{Key}
use Rattle.lwc_types.specs.declared.name.Name.{Name}
use Rattle.request_isolation.specs.Restored.{IsServed}

-- a fence is over names of one job: so is what is inside, what is opened, and what may be seen to change
pub record IsOver (f : Fence) (job : ℕ) : Type 0 where
  pub inside : (d : Name) → f.inside d ≡ true → d.job ≡ job
  pub opened : (d : Name) (k : Key) → f.opened d k ≡ true → d.job ≡ job
  pub seen : (d : Name) (k : Key) → f.seen d k ≡ true → d.job ≡ job

-- a worker serves the request of a job, and the next step of a thread is made for another one, or for none
pub record IsOfAnother (m : Machine) (job t : ℕ) : Type 0 where
  pub served : IsServed m job
  pub other : (x : Thread) → slice_get m.threads t ≡ Some x → x.job ≢ job

-- each of these steps is made inside the fence and does not lead out, or is made for another request
abbrev pub StayInsideOrServeOthers : Fence → ℕ → Machine → List ℕ → Type 0
StayInsideOrServeOthers f job m [] = Unit {0}
StayInsideOrServeOthers f job m (t ∷ ts) =
    (StaysInside f m t ⊎ IsOfAnother m job t) × StayInsideOrServeOthers f job (step m t) ts
