-- A step in a guarded context is given back, or uses fuel.
use Rattle.std.proofs.Common.{◌≡◌, ◌⊎◌, inl, inr, ℕ, ◌+◌, ◌-◌, ◌≤◌, refl, sym, ap, subst, ◌∙◌, Bool, true, false, cond, eqb, Option, Some, None, List, arith}
use Rattle.std.proofs.lemmas.Bool.{false≢true}
use Rattle.std.proofs.lemmas.Bool.Decides.{nat_tests}
use Rattle.std.specs.Prelude.{is_some, slice_get, slice_set}
use Rattle.std.specs.FinMap as fm
use Rattle.std.specs.Option.{option_and_then, option_map}
use Rattle.std.specs.Ordering.{eq_by_cmp}
use Rattle.guest_machine.specs.Advances.{advanced}
use Rattle.guest_machine.specs.declared.progress.Advance.{Advance}
use Rattle.kernel_core.proofs.Others.{found_set}
use Rattle.kernel_core.proofs.ReadyRuns.{ready_thread}
use Rattle.kernel_core.specs.Machine.{Environment, Machine, Serve}
use Rattle.kernel_core.specs.Ready.{IsReadyThread, IsRunnable, WhileRunning}
use Rattle.kernel_core.specs.Start.{Inputs}
use Rattle.kernel_core.specs.Refused.{advanced_thread}
use Rattle.kernel_core.specs.Step.{AfterStep, Outcome, after_outcome, counted, faulted, next_outcome, only, status_with, unchanged, with_regs, with_steps}
use Rattle.kernel_core.specs.declared.thread.Thread.{Thread}
use Rattle.lwc_base.specs.Slots.{lowest_empty}
use Rattle.lwc_base.specs.World.{World, is_live}
use Rattle.lwc_guard.proofs.Courses.{guarded-left, traps-stay}
use Rattle.lwc_guard.proofs.Ended.{runs-on}
use Rattle.lwc_guard.proofs.Keeping.{IsKept, get-put, kept-step}
use Rattle.lwc_guard.proofs.Ready.{way-leads}
use Rattle.lwc_guard.specs.GivingBack.{Course, cause_of, detail_of, fuelled_step, guarded_course, made_or_returned, returned, unfuelled, way_back}
use Rattle.lwc_guard.specs.Guards.{Guards, lowered}
use Rattle.lwc_guard.specs.Promises.{Ends, GoesOn, InTheMonitor, LeavesGuarded, MayEnd}
use Rattle.lwc_guard.specs.Reports.{fuel_of}
use Rattle.lwc_guard.specs.Steps.{Guarded, guarded_step, left_found, left_of}
use Rattle.lwc_guard.specs.declared.guard.Guard.{Guard}
use Rattle.lwc_guard.specs.declared.numbers.TheConstants.{NO_FUEL}
use Rattle.lwc_monitor.proofs.Guarding.{retained-get}
use Rattle.lwc_monitor.specs.Calls.{calls_under}
use Rattle.lwc_monitor.specs.Steps.{call_of, traps_after}
use Rattle.lwc_monitor.specs.Traps.{Traps, is_trapped}
use Rattle.lwc_types.proofs.Orders.{name-itself}
use Rattle.lwc_types.specs.Names.{name_cmp}
use Rattle.lwc_types.specs.declared.fault.Fault.TheVariants as fault
use Rattle.lwc_types.specs.declared.fault.ThreadStatus.{ThreadStatus}
use Rattle.lwc_types.specs.declared.fault.ThreadStatus.TheVariants as status
use Rattle.lwc_types.specs.declared.name.Name.{Name}

-- where there is no way back the monitor does not live, or has no empty slot
no-way : (traps : Traps) (w : World) (c m : Name) → fm.get traps c ≡ Some m → way_back traps w c ≡ None → (is_live w m ≡ false) ⊎ (lowest_empty w m ≡ None)
unfolding way_back
no-way traps w c m trapped none =
    by (is_live w m) refl (lowest_empty w m) refl
    (ap (option_and_then (λ (n : Name). cond (is_live w n) (option_map {U = Name × ℕ} (λ (k : ℕ). (n, k)) (lowest_empty w n)) None)) (sym trapped) ∙ none)
  where
    by : (b : Bool) → is_live w m ≡ b → (o : Option ℕ) → lowest_empty w m ≡ o → cond b (option_map {U = Name × ℕ} (λ (k : ℕ). (m, k)) o) None ≡ None → (is_live w m ≡ false) ⊎ (lowest_empty w m ≡ None)
    by false dead o lowest got = inl dead
    by true live None lowest got = inr lowest
    by true live (Some k) lowest got = cc

module _ (traps : Traps) (t : ℕ) (e : Environment) (x : Thread) (advance : Advance) (g : Guard) (m : Name) (trapped : fm.get traps x.context ≡ Some m) (running : x.status ≡ status.Running) where
  -- what becomes of the thread, before its step is counted
  data Fate (course : Course) : Type 0 where
    Back : course.outcome.thread.context ≡ m → Fate course
    On : 1 ≤ g.fuel → course.outcome.thread.context ≡ x.context → course.outcome.thread.status ≡ status.Running → course.guard.fuel ≡ g.fuel - 1 → Fate course
    Over : (is_live e.world m ≡ false) ⊎ (lowest_empty e.world m ≡ None) → Fate course

  abbrev caller : Thread
  caller = with_regs x advance.after

  abbrev under : Outcome
  under = next_outcome (calls_under traps) t e caller advance.next

  by_way : (h : Guard) (cause : ℕ) (detail : Option ℕ) (y : Thread) (ends : Outcome) (o : Option (Name × ℕ)) → way_back traps e.world x.context ≡ o → Fate (returned o cause detail t e y h ends)
  by_way h cause detail y ends None is = Over (no-way traps e.world x.context m trapped is)
  by_way h cause detail y ends (Some (n, slot)) is = Back (let same : Some n ≡ Some m = sym (way-leads traps e.world x.context n slot is).2 ∙ trapped in cc)

  by_cause : 1 ≤ g.fuel → (cause : Option ℕ) → cause_of advance.next under.thread.status ≡ cause → Fate (made_or_returned traps t e caller advance.next (lowered g) under cause)
  by_cause some None is =
      let goes = runs-on traps t e caller m running trapped advance.next is in
      elim goes.1 [ inl there ↦ Back there | inr here ↦ On some here goes.0 refl ]
  by_cause some (Some cause) is = by_way (lowered g) cause (detail_of advance.after advance.next) caller under (way_back traps e.world x.context) refl

  by_fuel : (b : Bool) → eqb g.fuel 0 ≡ b → Fate (cond b (unfuelled traps t e x g) (fuelled_step traps t e x advance g))
  by_fuel true none = by_way g NO_FUEL None x (unchanged e (faulted x fault.Budget)) (way_back traps e.world x.context) refl
  by_fuel false some = by_cause (let one : 1 ≤ g.fuel = grind (arith, nat_tests) in one) (cause_of advance.next under.thread.status) refl

  fate : Fate (guarded_course traps t e x advance g)
  unfolding guarded_course
  fate = by_fuel (eqb g.fuel 0) refl

module _ (inputs : Inputs) (steps : ℕ) (s : Guarded) (t : ℕ) (kept : IsKept inputs steps s) (x : Thread) (g : Guard) (m : Name) (found : slice_get s.machine.threads t ≡ Some x) (running : x.status ≡ status.Running)
    (guarded : fm.get s.guards x.context ≡ Some g) (trapped : fm.get s.traps x.context ≡ Some m) where
  abbrev e : Environment
  e = s.machine.environment

  abbrev course : Course
  course = guarded_course s.traps t e x (advanced s.machine.text x.regs) g

  abbrev after : Guarded
  after = guarded_step s t

  -- the thread after the step
  abbrev y : Thread
  y = with_steps (x.budget - 1) course.outcome.thread

  left-is : left_found s t (slice_get s.machine.threads t) ≡ (Some (only None (counted (x.budget - 1) course.outcome)), fm.insert s.guards x.context course.guard)
  left-is =
      ap (left_found s t) found ∙ ap (λ (serve : Option Serve). left_of s.traps s.guards t e serve s.machine.text x x.status) kept.run
      ∙ guarded-left s.traps s.guards t e s.machine.text x g guarded running

  thread-is : slice_get after.machine.threads t ≡ Some y
  unfolding guarded_step
  thread-is = ap (λ (p : Option AfterStep × Guards). slice_get (after_outcome s.machine t p.0).threads t) left-is ∙ found_set s.machine.threads t x y found

  lives : is_live after.machine.environment.world y.context ≡ true
  lives = (ready_thread inputs (steps + 1) t after.machine y (kept-step inputs steps s t kept).ready thread-is).live

  some-budget : 1 ≤ x.budget
  some-budget =
      (subst (λ (st : ThreadStatus). WhileRunning st (IsRunnable e.world x)) running (ready_thread inputs steps t s.machine x kept.ready found).runs).some_step

  module _ (place : y.context ≡ x.context) where
    here : is_live after.machine.environment.world x.context ≡ true
    here = ap (is_live after.machine.environment.world) (sym place) ∙ lives

    fuel-is : fuel_of after.guards x.context ≡ Some course.guard.fuel
    unfolding guarded_step
    fuel-is =
        let guards : Guards = (left_found s t (slice_get s.machine.threads t)).1 in
        ap (option_map (λ (h : Guard). h.fuel))
        (retained-get guards (is_live after.machine.environment.world) x.context
        ∙ ap (λ (b : Bool). cond b (fm.get guards x.context) None) here
        ∙ ap (λ (p : Option AfterStep × Guards). fm.get p.1 x.context) left-is
        ∙ get-put s.guards x.context course.guard x.context
        ∙ ap (λ (b : Bool). cond b (Some course.guard) (fm.get s.guards x.context)) (name-itself x.context))

    trap-is : fm.get after.traps x.context ≡ Some m
    unfolding guarded_step
    trap-is =
        let traps : Traps = traps_after s.traps s.machine (slice_get s.machine.threads t) in
        retained-get traps (is_live after.machine.environment.world) x.context
        ∙ ap (λ (b : Bool). cond b (fm.get traps x.context) None) here
        ∙ ap (λ (o : Option Thread). fm.get (traps_after s.traps s.machine o) x.context) found
        ∙ ap (λ (z : Traps). fm.get z x.context) (traps-stay s.traps e.world (advanced_thread s.machine x) (call_of s.machine x) (ap is_some trapped))
        ∙ trapped

  by_budget : (b : Bool) → eqb (x.budget - 1) 0 ≡ b → 1 ≤ g.fuel → y.context ≡ x.context → course.outcome.thread.status ≡ status.Running → course.guard.fuel ≡ g.fuel - 1 → LeavesGuarded s after t x g m
  by_budget true none some place goes fuel = Ends (inl (let zero : x.budget - 1 ≡ 0 = grind (arith, nat_tests) in omega (arith, zero, some-budget)))
  by_budget false left some place goes fuel =
      GoesOn some (y, thread-is, place, ap (status_with (x.budget - 1)) goes ∙ ap (λ (b : Bool). cond b (status.Faulted fault.Budget) status.Running) left)
      (fuel-is place ∙ ap Some fuel) (trap-is place)

  -- what a step in a guarded context leaves
  pub leaves-guarded : LeavesGuarded s after t x g m
  leaves-guarded = elim (fate s.traps t e x (advanced s.machine.text x.regs) g m trapped running) [
    | Back there ↦ InTheMonitor (y, thread-is, there)
    | On some place goes fuel ↦ by_budget (eqb (x.budget - 1) 0) refl some place goes fuel
    | Over over ↦ Ends (inr over)
  ]
