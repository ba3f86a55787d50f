-- What a step of a serve finishes is recorded and stays so, and what is recorded was finished by a step.
use Rattle.std.proofs.Common.{◌≡◌, ◌⊎◌, inl, inr, ℕ, zero, suc, ◌-◌, ◌<◌, refl, sym, ap, subst, ◌∙◌, Bool, true, false, cond, ltb, Option, Some, None, List, [], ◌∷◌, length, get_or, arith}
use Rattle.std.specs.Prelude.{Contains, slice_get, slice_set}
use Rattle.std.proofs.lemmas.Option.{slice_get_within}
use Rattle.guest_image.specs.declared.image.Image.{Image}
use Rattle.kernel_core.proofs.FinishedBy.{finished_first, finished_later, first_or_later}
use Rattle.kernel_core.specs.Histories.{finishes_by}
use Rattle.kernel_core.specs.Kernel.{CanOpen}
use Rattle.kernel_core.specs.Machine.{Machine, Serve, has_ended, in_serve, reply_of}
use Rattle.kernel_core.specs.Runs.{run}
use Rattle.kernel_core.specs.Start.{Inputs, start, thread_count, threads_for}
use Rattle.kernel_core.specs.Step.{AfterStep, Outcome, begin_next, finish, finished_by, finished_in, finished_of, finishes, guest_calls, only, step, thread_outcome, unchanged, with_status}
use Rattle.kernel_core.specs.declared.settings.Job.{Job}
use Rattle.kernel_core.specs.declared.settings.Job.TheVariants as jobs
use Rattle.kernel_core.specs.declared.thread.Thread.{Thread}
use Rattle.lwc_types.specs.declared.fault.ThreadStatus.{ThreadStatus}
use Rattle.lwc_types.specs.declared.fault.ThreadStatus.TheVariants.{Idle, Running, Done, Faulted}
use Rattle.snapshot_host.specs.declared.finishing.Finished.{Finished}
use Rattle.request_isolation.proofs.Holds.{acts, begun_few, serving_now, thread_count_is}
use Rattle.request_isolation.proofs.Isolated.{none_recorded, stands_start}
use Rattle.request_isolation.proofs.Stages.{Begins, Ends, Finishes, Goes, How, IsTold, Stands, acted_by, how_made, how_step, made_or_not, stands_step, stands_told, told_step}

-- the step of a thread ends its request with this reply
record IsFinishing (m : Machine) (t : ℕ) (reply : Finished) : Type 0 where
  thread : Thread
  found : slice_get m.threads t ≡ Some thread
  running : thread.status ≡ Running
  ended : has_ended (acted_by m t thread).thread.status ≡ true
  is : finished_by (acted_by m t thread).thread (acted_by m t thread).environment.channels ≡ reply

module _ (m : Machine) (s : Serve) (serve : m.serve ≡ Some s) (t : ℕ) (reply : Finished) where
  settled_with : (outcome : Outcome) (b : Bool) → (cond b (finish t s outcome) (only (Some s) outcome)).finished ≡ Some reply → (b ≡ true) × (finished_by outcome.thread outcome.environment.channels ≡ reply)
  settled_with outcome true is = (refl, cc)
  settled_with outcome false is = cc

  woken_with : (x : Thread) (b : Bool) → (cond b (begin_next t s m.environment) (only (Some s) (unchanged m.environment (with_status x (Done 0))))).finished ≡ Some reply → ⊥
  woken_with x true is = cc
  woken_with x false is = cc

  finishing_by : (x : Thread) → slice_get m.threads t ≡ Some x → (status : ThreadStatus) → x.status ≡ status → finished_in (thread_outcome guest_calls t m.environment (Some s) m.text x status) ≡ Some reply → IsFinishing m t reply
  finishing_by x found Running running is =
      let end = settled_with (acted_by m t x) (has_ended (acted_by m t x).thread.status) is in
      record { thread = x; found = found; running = running; ended = end.0; is = end.1 }
  finishing_by x found Idle idle is = absurd (woken_with x (ltb s.next (length m.environment.channels.requests)) is)
  finishing_by x found (Done code) ended is = cc
  finishing_by x found (Faulted f) ended is = cc

  finishing : finishes m t ≡ Some reply → IsFinishing m t reply
  unfolding finishes
  finishing is = by_found (slice_get m.threads t) refl is
    where
      by_found : (found : Option Thread) → slice_get m.threads t ≡ found → finished_of m t found ≡ Some reply → IsFinishing m t reply
      by_found None found is = cc
      by_found (Some x) found is =
          finishing_by x found x.status refl (ap (λ (o : Option Serve). finished_in (thread_outcome guest_calls t m.environment o m.text x x.status)) (sym serve) ∙ is)

  -- what is recorded after a step was recorded before it, or the step finished it
  was_or_is : (replies : List (Option Finished)) (i r : ℕ) (f : Finished) → get_or (slice_set replies i (Some f)) r None ≡ Some reply → (get_or replies r None ≡ Some reply) ⊎ (f ≡ reply)
  was_or_is [] i r f is = inl is
  was_or_is (o ∷ rest) zero zero f is = inr cc
  was_or_is (o ∷ rest) zero (suc r) f is = inl is
  was_or_is (o ∷ rest) (suc i) zero f is = inl is
  was_or_is (o ∷ rest) (suc i) (suc r) f is = was_or_is rest i r f is

  by_how : (r : ℕ) (x : Thread) (acted : ℕ) (after : AfterStep) (now : Serve) → How m s t x acted after now → in_serve after.serve r ≡ Some reply → (in_serve (Some s) r ≡ Some reply) ⊎ (after.finished ≡ Some reply)
  by_how r x _ _ _ (Finishes running ended) is =
      let f = finished_by (acted_by m t x).thread (acted_by m t x).environment.channels in
      elim (was_or_is s.replies f.request r f is) [
        | inl old ↦ inl old
        | inr same ↦ inr (ap Some same)
      ]
  by_how r x _ _ _ (Goes running going) is = inl is
  by_how r x _ _ _ (Begins idle some) is = inl is
  by_how r x _ _ _ (Ends idle none) is = inl is

  one_more : (r : ℕ) → reply_of (step m t) r ≡ Some reply → (reply_of m r ≡ Some reply) ⊎ ((t < length m.threads) × (finishes m t ≡ Some reply))
  unfolding reply_of finishes
  one_more r is =
      elim (made_or_not m s t serve) [
        | inl same ↦ inl (ap (λ (k : Machine). reply_of k r) (sym same) ∙ is)
        | inr made ↦
            let after = ap (λ (k : Machine). reply_of k r) (sym (how_step m s t made.thread made.acted made.after made.now serve made.found made.how)) ∙ is in
            let finished : finishes m t ≡ made.after.finished =
            ap (finished_of m t) made.found
            ∙ ap (λ (o : Option Serve). finished_in (thread_outcome guest_calls t m.environment o m.text made.thread made.thread.status)) serve
            ∙ ap finished_in (how_made m s t made.thread made.acted made.after made.now made.how) in
            elim (by_how r made.thread made.acted made.after made.now made.how after) [
              | inl old ↦ inl (ap (λ (o : Option Serve). in_serve o r) serve ∙ old)
              | inr here ↦ inr (slice_get_within m.threads t made.thread made.found, finished ∙ here)
            ]
      ]

module _ (image : Image) (workers budget n : ℕ) where
  abbrev StandsServe : Machine → Type 0
  StandsServe m = Stands image budget workers n (λ m s. Unit {0}) m

  serves_on : (m : Machine) (t : ℕ) → StandsServe m → StandsServe (step m t)
  serves_on m t stands = stands_step image budget workers n (λ m s. Unit {0}) (λ m s. Unit {0}) m t stands (λ fact. fact) (λ made. tt)

  told_run : (r : ℕ) (reply : Option Finished) (m : Machine) (steps : List ℕ) → Stands image budget workers n (IsTold image budget r reply) m → Stands image budget workers n (IsTold image budget r reply) (run m steps)
  told_run r reply m [] stands = stands
  told_run r reply m (t ∷ ts) stands = told_run r reply (step m t) ts (told_step image budget workers n r reply m t stands)

  told_here : (m : Machine) (t : ℕ) (x : Finished) → StandsServe m → finishes m t ≡ Some x → Stands image budget workers n (IsTold image budget x.request (Some x)) (step m t)
  told_here m t x stands is =
      let s = stands.serve in
      let here = finishing m s stands.holds.is t x is in
      let own = (acts image workers budget n m s stands.holds t here.thread here.found here.running).job in
      let some = (serving_now stands.holds t here.thread here.found here.running).1 in
      let same : (acted_by m t here.thread).thread.job - 1 ≡ x.request = ap (λ (f : Finished). f.request) here.is in
      subst (λ (f : Finished). Stands image budget workers n (IsTold image budget x.request (Some f)) (step m t)) here.is
      (stands_told image budget workers n x.request m s stands.holds t here.thread here.found here.running (omega (arith, own, some, same)) here.ended)

  -- what one of the steps finishes is recorded after all of them
  told_by : (m : Machine) (steps : List ℕ) (t : ℕ) (x : Finished) → StandsServe m → Contains (finishes_by m steps t) x → Stands image budget workers n (IsTold image budget x.request (Some x)) (run m steps)
  unfolding finishes_by
  told_by m [] t x stands (i, low, is) = absurd (omega (arith, low))
  told_by m (s ∷ ss) t x stands has =
      elim (first_or_later m s ss t x has) [
        | inl here ↦ told_run x.request (Some x) (step m s) ss (told_here m s x stands (ap (finishes m) here.0 ∙ here.1))
        | inr later ↦ told_by (step m s) ss t x (serves_on m s stands) later
      ]

  -- what is recorded after the steps was recorded before them, or one of them finished it
  made_by : (m : Machine) (steps : List ℕ) (r : ℕ) (x : Finished) → StandsServe m → reply_of (run m steps) r ≡ Some x → (reply_of m r ≡ Some x) ⊎ ((t : ℕ) × (t < workers) × Contains (finishes_by m steps t) x)
  made_by m [] r x stands is = inl is
  made_by m (s ∷ ss) r x stands is =
      elim (made_by (step m s) ss r x (serves_on m s stands) is) [
        | inl before ↦
            elim (one_more m stands.serve stands.holds.is s x r before) [
              | inl old ↦ inl old
              | inr here ↦ inr (s, omega (arith, here.0, thread_count_is stands.holds), finished_first m s ss x here.1)
            ]
        | inr later ↦ inr (later.0, later.1, finished_later m s ss later.0 x later.2)
      ]

-- a serve from its start
module _ (inputs : Inputs) (workers : ℕ) (can : CanOpen inputs) (serve : inputs.settings.job ≡ jobs.Serve workers) where
  told_at_end : (steps : List ℕ) (t : ℕ) (x : Finished) → Contains (finishes_by (start inputs) steps t) x →
      Stands inputs.image inputs.settings.budget workers (length inputs.requests) (IsTold inputs.image inputs.settings.budget x.request (Some x)) (run (start inputs) steps)
  told_at_end steps t x has = told_by inputs.image workers inputs.settings.budget (length inputs.requests) (start inputs) steps t x (stands_start inputs workers can serve) has

  pub recorded_at_end : (steps : List ℕ) (t : ℕ) (x : Finished) → Contains (finishes_by (start inputs) steps t) x → reply_of (run (start inputs) steps) x.request ≡ Some x
  unfolding reply_of
  recorded_at_end steps t x has =
      let told = told_at_end steps t x has in
      ap (λ (o : Option Serve). in_serve o x.request) told.holds.is ∙ told.fact.told

  pub request_below : (steps : List ℕ) (t : ℕ) (x : Finished) → Contains (finishes_by (start inputs) steps t) x → x.request < length inputs.requests
  request_below steps t x has =
      let told = told_at_end steps t x has in
      let begun = told.fact.begun in
      omega (arith, begun, begun_few told.holds)

  pub finished_by_thread : (steps : List ℕ) (r : ℕ) (x : Finished) → reply_of (run (start inputs) steps) r ≡ Some x → (t : ℕ) × (t < thread_count inputs) × Contains (finishes_by (start inputs) steps t) x
  unfolding thread_count
  finished_by_thread steps r x is =
      elim (made_by inputs.image workers inputs.settings.budget (length inputs.requests) (start inputs) steps r x (stands_start inputs workers can serve) is) [
        | inl before ↦ let clash : None ≡ Some x = sym (none_recorded inputs workers can serve r) ∙ before in cc
        | inr by ↦
            let count : threads_for inputs.image inputs.settings.job ≡ workers = ap (λ (job : Job). threads_for inputs.image job) serve in
            let low = by.1 in (by.0, omega (arith, low, count), by.2)
      ]
