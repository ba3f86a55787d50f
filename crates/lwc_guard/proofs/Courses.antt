-- What steps under guards leave, as the code makes them.
use Rattle.std.proofs.Common.{◌≡◌, ◌⊎◌, inl, inr, ◌-◌, ℕ, refl, sym, ap, subst, ◌∙◌, Bool, true, false, cond, eqb, ◌&&◌, Option, Some, None, List}
use Rattle.std.specs.Prelude.{Result, Ok, Err, IfOk, OnOk, is_some, not}
use Rattle.std.specs.FinMap as fm
use Rattle.guest_isa.specs.declared.instr.Instr.{Instr}
use Rattle.guest_machine.specs.Advances.{advanced}
use Rattle.guest_machine.specs.declared.progress.Advance.{Advance}
use Rattle.guest_machine.specs.declared.progress.Next.{Next}
use Rattle.kernel_core.specs.Changes.{after_effect, made}
use Rattle.kernel_core.specs.Machine.{Environment, Serve}
use Rattle.kernel_core.specs.Step.{AfterStep, Outcome, advance_outcome, beside, counted, next_outcome, only, status_with, thread_outcome, unchanged, with_regs, with_status, with_steps}
use Rattle.kernel_core.specs.declared.acting.Change.{Change}
use Rattle.kernel_core.specs.declared.acting.Effect.{Effect}
use Rattle.kernel_core.specs.declared.thread.Thread.{Thread}
use Rattle.lwc_guard.proofs.Ended.{ended}
use Rattle.lwc_guard.specs.Calls.{calls_guarded, guards_after_call}
use Rattle.lwc_guard.specs.GivingBack.{Course, cause_of, detail_of, fuelled_step, given_back, guarded_course, made_or_returned, returned, unfuelled, way_back}
use Rattle.lwc_guard.specs.Guards.{Guards, holding, lowered}
use Rattle.lwc_guard.specs.Steps.{Left, left_by, left_of, left_running}
use Rattle.lwc_guard.specs.declared.guard.Guard.{Guard}
use Rattle.lwc_base.specs.Refusals.{first_refusal}
use Rattle.lwc_base.specs.World.{World}
use Rattle.lwc_monitor.specs.Calls.{calls_under, trapped_by, traps_after_call}
use Rattle.lwc_monitor.specs.declared.numbers.TheConstants.{LW_TRAP}
use Rattle.lwc_monitor.specs.Steps.{call_next}
use Rattle.lwc_monitor.specs.Traps.{Traps, is_trapped, trap_rows}
use Rattle.lwc_types.specs.declared.fault.Fault.TheVariants as fault
use Rattle.lwc_types.specs.declared.fault.ThreadStatus.{ThreadStatus}
use Rattle.lwc_types.specs.declared.fault.ThreadStatus.TheVariants as status
use Rattle.lwc_types.specs.declared.name.Name.{Name}

pub on_ok : {A E P : Type 0} (r : Result A E) → P → OnOk r P
on_ok (Ok a) is = is
on_ok (Err e) is = tt

-- the cause of a step is the same once it is counted
pub cause-counted : (n : Next) (left : ℕ) (st : ThreadStatus) → cause_of n (status_with left st) ≡ cause_of n st
cause-counted n left status.Running = by (eqb left 0)
  where
    by : (b : Bool) → cause_of n (cond b (status.Faulted fault.Budget) status.Running) ≡ None
    by true = refl
    by false = refl
cause-counted n left status.Idle = refl
cause-counted n left (status.Done code) = refl
cause-counted n left (status.Faulted f) = refl

-- a call of a trapped context traps none
pub traps-stay : (traps : Traps) (w : World) (x : Thread) (o : Option ℕ) → is_trapped traps x.context ≡ true → traps_after_call traps w x o ≡ traps
traps-stay traps w x None trapped = refl
traps-stay traps w x (Some number) trapped =
    ap (λ (b : Bool). cond (eqb number LW_TRAP && not b) (trapped_by traps w x.context x.regs (first_refusal (trap_rows traps w x.context x.regs))) traps) trapped ∙ by (eqb number LW_TRAP)
  where
    by : (b : Bool) → cond (b && false) (trapped_by traps w x.context x.regs (first_refusal (trap_rows traps w x.context x.regs))) traps ≡ traps
    by true = refl
    by false = refl

-- a step in a guarded context
pub guarded-left : (traps : Traps) (guards : Guards) (t : ℕ) (e : Environment) (text : List Instr) (x : Thread) (g : Guard) → fm.get guards x.context ≡ Some g → x.status ≡ status.Running →
    left_of traps guards t e None text x x.status
    ≡ (Some (only None (counted (x.budget - 1) (guarded_course traps t e x (advanced text x.regs) g).outcome)), fm.insert guards x.context (guarded_course traps t e x (advanced text x.regs) g).guard)
unfolding left_running
guarded-left traps guards t e text x g found running =
    ap (left_of traps guards t e None text x) running
    ∙ ap (λ (o : Option Guard). let l = left_by o traps guards t e x (advanced text x.regs) in (Some (only None (counted (x.budget - 1) l.outcome)), l.guards)) found

module _ (traps : Traps) (t : ℕ) (e : Environment) (text : List Instr) (x : Thread) (a : Advance) (is : a ≡ advanced text x.regs) where
  abbrev caller : Thread
  caller = with_regs x a.after

  -- what comes next under traps
  abbrev under : Outcome
  under = next_outcome (calls_under traps) t e caller a.next

  under-is : advance_outcome (calls_under traps) t e x (advanced text x.regs) ≡ counted (x.budget - 1) under
  unfolding advance_outcome
  under-is = ap (λ (b : Advance). counted (x.budget - 1) (next_outcome (calls_under traps) t e (with_regs x b.after) b.next)) (sym is)

  module _ (guards : Guards) (free : fm.get guards x.context ≡ None) (running : x.status ≡ status.Running) where
    abbrev free_outcome : Outcome
    free_outcome = next_outcome (calls_guarded traps guards) t e caller a.next

    left-is : left_of traps guards t e None text x x.status ≡ (Some (only None (counted (x.budget - 1) free_outcome)), guards_after_call traps guards t e.world caller (call_next a.next))
    unfolding left_running
    left-is =
        ap (left_of traps guards t e None text x) running
        ∙ ap (λ (o : Option Guard). let l = left_by o traps guards t e x (advanced text x.regs) in (Some (only None (counted (x.budget - 1) l.outcome)), l.guards)) free
        ∙ ap (λ (b : Advance). (Some (only None (counted (x.budget - 1) (next_outcome (calls_guarded traps guards) t e (with_regs x b.after) b.next))), guards_after_call traps guards t e.world (with_regs x b.after) (call_next b.next))) (sym is)

    pub left-guards : (left_of traps guards t e None text x x.status).1 ≡ guards_after_call traps guards t e.world caller (call_next a.next)
    left-guards = ap (λ (p : Option AfterStep × Guards). p.1) left-is

    -- a step as under traps
    pub free-course : {E : Type 0} (r : Result (Option Effect) E) (f : Environment) (y : Thread) → free_outcome ≡ under →
        IfOk r (λ effect. thread_outcome (calls_under traps) t e None text x status.Running ≡ made effect f None y) → IfOk r (λ effect. (left_of traps guards t e None text x x.status).0 ≡ made effect f None y)
    free-course (Ok effect) f y same got =
        ap (λ (p : Option AfterStep × Guards). p.0) left-is ∙ ap (λ (o : Outcome). Some (only None (counted (x.budget - 1) o))) same ∙ ap (λ (o : Outcome). Some (only None o)) (sym under-is) ∙ got
    free-course (Err err) f y same got = tt

    -- and one by a ruling
    pub ruled-course : (o : Outcome) (f : Environment) (y z : Thread) (change : Change) → free_outcome ≡ o → o ≡ unchanged f y → z ≡ with_steps (x.budget - 1) y →
        (left_of traps guards t e None text x x.status).0 ≡ Some (after_effect (record { change = change; finished = None }) f None z)
    ruled-course o f y z change same done steps =
        ap (λ (p : Option AfterStep × Guards). p.0) left-is ∙ ap (λ (u : Outcome). Some (only None (counted (x.budget - 1) u))) (same ∙ done)
        ∙ ap (λ (k : Thread). Some (only None (record { thread = k; environment = f }))) (sym steps)

  module _ (g : Guard) (some : eqb g.fuel 0 ≡ false) (running : x.status ≡ status.Running) (trapped : is_trapped traps x.context ≡ true) where
    course-is : guarded_course traps t e x (advanced text x.regs) g ≡ made_or_returned traps t e caller a.next (lowered g) under (cause_of a.next under.thread.status)
    unfolding guarded_course
    course-is = ap (λ (b : Bool). cond b (unfuelled traps t e x g) (fuelled_step traps t e x (advanced text x.regs) g)) some ∙ ap (λ (b : Advance). fuelled_step traps t e x b g) (sym is)

    ended-under : (cause : ℕ) → cause_of a.next under.thread.status ≡ Some cause → under ≡ unchanged e (with_status caller under.thread.status)
    ended-under cause why = by (fm.get traps x.context) refl trapped
      where
        by : (o : Option Name) → fm.get traps x.context ≡ o → is_some o ≡ true → under ≡ unchanged e (with_status caller under.thread.status)
        by None none there = cc
        by (Some m) found there = ended traps t e caller m running found a.next cause why

    module _ (effect : Option Effect) (f : Environment) (y : Thread) (got : thread_outcome (calls_under traps) t e None text x status.Running ≡ made effect f None y) where
      counted-is : counted (x.budget - 1) under ≡ unchanged f y
      counted-is = by effect (ap (λ (o : Outcome). Some (only None o)) (sym under-is) ∙ got)
        where
          by : (o : Option Effect) → Some (only None (counted (x.budget - 1) under)) ≡ made o f None y → counted (x.budget - 1) under ≡ unchanged f y
          by None made = cc
          by (Some k) made =
              let same : only None (counted (x.budget - 1) under) ≡ after_effect k f None y = cc in
              λ i. record { thread = (same i).thread; environment = (same i).environment }

      cause-is : cause_of a.next y.status ≡ cause_of a.next under.thread.status
      cause-is = ap (λ (o : Outcome). cause_of a.next o.thread.status) (sym counted-is) ∙ cause-counted a.next (x.budget - 1) under.thread.status

      -- a step that is not given back
      abbrev IsMade : Course → Type 0
      IsMade course = (course.outcome ≡ under) × (course.guard ≡ lowered g)

      made-by : (cause : Option ℕ) → cause_of a.next under.thread.status ≡ cause → (cause_of a.next y.status ≡ None) ⊎ (way_back traps f.world y.context ≡ None) →
          IsMade (made_or_returned traps t e caller a.next (lowered g) under cause)
      made-by None why none = (refl, refl)
      made-by (Some cause) why (inl none) = (let other : None ≡ Some cause = sym none ∙ cause-is ∙ why in cc)
      made-by (Some cause) why (inr none) =
          let same : unchanged f y ≡ counted (x.budget - 1) (unchanged e (with_status caller under.thread.status)) = sym counted-is ∙ ap (counted (x.budget - 1)) (ended-under cause why) in
          let way : way_back traps e.world x.context ≡ None = ap (λ (o : Outcome). way_back traps o.environment.world o.thread.context) (sym same) ∙ none in
          subst (λ (o : Option (Name × ℕ)). IsMade (returned o cause (detail_of a.after a.next) t e caller (lowered g) under)) (sym way) (refl, refl)

      is-made : (cause_of a.next y.status ≡ None) ⊎ (way_back traps f.world y.context ≡ None) → IsMade (guarded_course traps t e x (advanced text x.regs) g)
      is-made none = subst IsMade (sym course-is) (made-by (cause_of a.next under.thread.status) refl none)

      pub made-outcome : (cause_of a.next y.status ≡ None) ⊎ (way_back traps f.world y.context ≡ None) →
          Some (only None (counted (x.budget - 1) (guarded_course traps t e x (advanced text x.regs) g).outcome)) ≡ made effect f None y
      made-outcome none = ap (λ (o : Outcome). Some (only None (counted (x.budget - 1) o))) (is-made none).0 ∙ ap (λ (o : Outcome). Some (only None o)) (sym under-is) ∙ got

      pub made-guard : (cause_of a.next y.status ≡ None) ⊎ (way_back traps f.world y.context ≡ None) → (guarded_course traps t e x (advanced text x.regs) g).guard ≡ lowered g
      made-guard none = (is-made none).1

      -- and one that is
      module _ (cause : ℕ) (way : Name × ℕ) (why : cause_of a.next y.status ≡ Some cause) (leads : way_back traps f.world y.context ≡ Some way) where
        before : unchanged f y ≡ counted (x.budget - 1) (unchanged e (with_status caller under.thread.status))
        before = sym counted-is ∙ ap (counted (x.budget - 1)) (ended-under cause (sym cause-is ∙ why))

        pub same-context : y.context ≡ x.context
        same-context = ap (λ (o : Outcome). o.thread.context) before

        pub same-environment : f ≡ e
        same-environment = ap (λ (o : Outcome). o.environment) before

        back-is : guarded_course traps t e x (advanced text x.regs) g ≡ record { outcome = given_back cause (detail_of a.after a.next) t e caller way.0 way.1; guard = holding t true (lowered g) }
        back-is =
            let here : way_back traps e.world x.context ≡ Some way = ap (λ (o : Outcome). way_back traps o.environment.world o.thread.context) (sym before) ∙ leads in
            course-is ∙ ap (made_or_returned traps t e caller a.next (lowered g) under) (sym cause-is ∙ why)
            ∙ ap (λ (o : Option (Name × ℕ)). returned o cause (detail_of a.after a.next) t e caller (lowered g) under) here

        pub back-guard : (guarded_course traps t e x (advanced text x.regs) g).guard ≡ holding t true (lowered g)
        back-guard = ap (λ (c : Course). c.guard) back-is

        pub back-outcome : (after : Environment) (back z : Thread) (change : Change) → given_back cause (detail_of y.regs a.next) t f (record y { status = status.Running }) way.0 way.1 ≡ unchanged after back → z ≡ with_steps (x.budget - 1) back →
            Some (only None (counted (x.budget - 1) (guarded_course traps t e x (advanced text x.regs) g).outcome)) ≡ Some (after_effect (record { change = change; finished = None }) after None z)
        back-outcome after back z change given steps =
            let same : given_back cause (detail_of y.regs a.next) t f (record y { status = status.Running }) way.0 way.1
            ≡ given_back cause (detail_of a.after a.next) t e (record caller { status = status.Running; budget = x.budget - 1 }) way.0 way.1 =
            ap (λ (o : Outcome). given_back cause (detail_of o.thread.regs a.next) t o.environment (record o.thread { status = status.Running }) way.0 way.1) before in
            let budget : counted (x.budget - 1) (given_back cause (detail_of a.after a.next) t e caller way.0 way.1)
            ≡ counted (x.budget - 1) (given_back cause (detail_of a.after a.next) t e (record caller { status = status.Running; budget = x.budget - 1 }) way.0 way.1) =
            ap (λ (st : ThreadStatus). counted (x.budget - 1) (given_back cause (detail_of a.after a.next) t e (record caller { status = st }) way.0 way.1)) running in
            ap (λ (c : Course). Some (only None (counted (x.budget - 1) c.outcome))) back-is
            ∙ ap (λ (o : Outcome). Some (only None o)) (budget ∙ ap (counted (x.budget - 1)) (sym same ∙ given))
            ∙ ap (λ (k : Thread). Some (only None (record { thread = k; environment = after }))) (sym steps)
