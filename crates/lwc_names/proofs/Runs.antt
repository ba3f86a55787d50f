-- Runs of machines, and the frames that they use, under other numbers.
use Rattle.std.proofs.Common.{◌≡◌, ◌⊎◌, inl, inr, ℕ, zero, suc, ◌≤◌, refl, sym, ap, subst, ◌∙◌, Bool, true, false, cond, ltb, Option, Some, None, List, [], ◌∷◌, length, arith}
use Rattle.std.specs.Prelude.{max, slice_get, slice_set}
use Rattle.std.specs.Option.{option_map}
use Rattle.guest_machine.specs.Advances.{advanced}
use Rattle.kernel_core.specs.Machine.{Environment, Machine, Serve, has_ended}
use Rattle.kernel_core.specs.Runs.{frames_of, run}
use Rattle.kernel_core.specs.Step as steps
use Rattle.kernel_core.specs.Step.{AfterStep, Outcome, after_outcome, after_thread, guest_calls, step, step_by, thread_outcome}
use Rattle.kernel_core.specs.declared.thread.Thread.{Thread}
use Rattle.lwc_base.specs.Frames.{used}
use Rattle.lwc_base.specs.World.{World}
use Rattle.lwc_types.specs.declared.fault.ThreadStatus.{ThreadStatus}
use Rattle.lwc_types.specs.declared.fault.ThreadStatus.TheVariants.{Idle, Running, Done, Faulted}
use Rattle.lwc_names.proofs.Acts.{advance-job}
use Rattle.lwc_names.proofs.Frames.{used-shifted}
use Rattle.lwc_names.proofs.Machines.{get_map, step-shifted, thread-shifted}
use Rattle.lwc_names.proofs.Outcomes.{shifted_after}
use Rattle.lwc_names.specs.Machines.{EachActsForItsJob, shifted_machine, shifted_thread}
use Rattle.lwc_names.specs.Shifts.{shifted_world}
use Rattle.request_isolation.specs.Needs.{acted_world, most_used, world_by, world_left}

-- what a list has at a place once another place was set
pub set_cases : {A : Type 0} (xs : List A) (i j : ℕ) (x y : A) → slice_get (slice_set xs i x) j ≡ Some y → (y ≡ x) ⊎ (slice_get xs j ≡ Some y)
set_cases [] i j x y found = inr found
set_cases (z ∷ zs) zero zero x y found = inl cc
set_cases (z ∷ zs) zero (suc j) x y found = inr found
set_cases (z ∷ zs) (suc i) zero x y found = inr found
set_cases (z ∷ zs) (suc i) (suc j) x y found = set_cases zs i j x y found

-- a thread acts for a job other than 0 while it runs
abbrev Acts : Thread → Type 0
Acts x = x.status ≡ Running → 1 ≤ x.job

module _ (t : ℕ) where
  settled-acts : (serve : Option Serve) (o : Outcome) → 1 ≤ o.thread.job → Acts (steps.settled t serve o).thread
  settled-acts None o some = λ runs. some
  settled-acts (Some s) o some = by_end (has_ended o.thread.status)
    where
      by_end : (b : Bool) → Acts (cond b (steps.finish t s o) (steps.only (Some s) o)).thread
      by_end true = λ runs. cc
      by_end false = λ runs. some

  woken-acts : (serve : Option Serve) (e : Environment) (x : Thread) → Acts (steps.woken t serve e x).thread
  woken-acts None e x = λ runs. cc
  woken-acts (Some s) e x = by_next (ltb s.next (length e.channels.requests))
    where
      by_next : (b : Bool) → Acts (cond b (steps.begin_next t s e) (steps.only (Some s) (steps.unchanged e (steps.with_status x (Done 0))))).thread
      by_next true = λ runs. omega arith
      by_next false = λ runs. cc

  -- whoever steps acts for a job other than 0 afterwards
  acts_after : (m : Machine) (x : Thread) (status : ThreadStatus) → (status ≡ Running → 1 ≤ x.job) → EachActsForItsJob m →
      EachActsForItsJob (after_outcome m t (thread_outcome guest_calls t m.environment m.serve m.text x status))
  acts_after m x Running some each u y found =
      let o = steps.advance_outcome guest_calls t m.environment x (advanced m.text x.regs) in
      let own : 1 ≤ o.thread.job = omega (arith, some refl, advance-job t m.environment x (advanced m.text x.regs)) in
      elim (set_cases m.threads t u (steps.settled t m.serve o).thread y found) [
        | inl new ↦ subst Acts (sym new) (settled-acts m.serve o own)
        | inr old ↦ each u y old
      ]
  acts_after m x Idle some each u y found =
      elim (set_cases m.threads t u (steps.woken t m.serve m.environment x).thread y found) [
        | inl new ↦ subst Acts (sym new) (woken-acts m.serve m.environment x)
        | inr old ↦ each u y old
      ]
  acts_after m x (Done code) some each u y found = each u y found
  acts_after m x (Faulted f) some each u y found = each u y found

  found-acts : (m : Machine) (found : Option Thread) → ((x : Thread) → found ≡ Some x → Acts x) → EachActsForItsJob m → EachActsForItsJob (after_thread guest_calls m t found)
  found-acts m None some each = each
  found-acts m (Some x) some each = acts_after m x x.status (some x refl) each

  pub step-acts : (m : Machine) → EachActsForItsJob m → EachActsForItsJob (step m t)
  unfolding step_by
  step-acts m each = found-acts m (slice_get m.threads t) (each t) each

module _ (r : ℕ) where
  pub run-shifted : (m : Machine) (ts : List ℕ) → EachActsForItsJob m → run (shifted_machine r m) ts ≡ shifted_machine r (run m ts)
  run-shifted m [] each = refl
  run-shifted m (t ∷ ts) each = ap (λ (v : Machine). run v ts) (step-shifted r m t each) ∙ run-shifted (step m t) ts (step-acts t m each)

  frames-shifted : (m : Machine) → frames_of (shifted_machine r m) ≡ frames_of m
  unfolding shifted_machine
  frames-shifted m = used-shifted r m.environment.world

  left-shifted : (w : World) (a : Option AfterStep) → world_left (shifted_world r w) (option_map (shifted_after r) a) ≡ shifted_world r (world_left w a)
  left-shifted w None = refl
  left-shifted w (Some a) = refl

  by-shifted : (m : Machine) (t : ℕ) (found : Option Thread) → ((x : Thread) → found ≡ Some x → Acts x) →
      world_by (shifted_machine r m) t (option_map (shifted_thread r) found) ≡ shifted_world r (world_by m t found)
  unfolding shifted_machine
  by-shifted m t None some = refl
  by-shifted m t (Some x) some =
      ap (world_left (shifted_world r m.environment.world)) (thread-shifted r t m.environment m.serve m.text x x.status (some x refl))
      ∙ left-shifted m.environment.world (thread_outcome guest_calls t m.environment m.serve m.text x x.status)

  acted-shifted : (m : Machine) (t : ℕ) → EachActsForItsJob m → acted_world (shifted_machine r m) t ≡ shifted_world r (acted_world m t)
  unfolding acted_world shifted_machine
  acted-shifted m t each = ap (world_by (shifted_machine r m) t) (get_map (shifted_thread r) m.threads t) ∙ by-shifted m t (slice_get m.threads t) (each t)

  pub most-shifted : (m : Machine) (ts : List ℕ) → EachActsForItsJob m → most_used (shifted_machine r m) ts ≡ most_used m ts
  most-shifted m [] each = frames-shifted m
  most-shifted m (t ∷ ts) each =
      let acted = ap used (acted-shifted m t each) ∙ used-shifted r (acted_world m t) in
      let later = ap (λ (v : Machine). most_used v ts) (step-shifted r m t each) ∙ most-shifted (step m t) ts (step-acts t m each) in
      λ i. max (frames-shifted m i) (max (acted i) (later i))
