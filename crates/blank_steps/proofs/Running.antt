-- Steps outside a context are as legal where that is blank, lead to the same, and take as many frames.
use Rattle.std.proofs.Common.{◌≡◌, ℕ, refl, sym, ap, subst, ◌∙◌, Bool, true, false, cond, Option, Some, None, List, [], ◌∷◌, ◌++◌}
use Rattle.std.specs.Prelude.{max, nat_lt, slice_get}
use Rattle.guest_call.specs.Guest.{descriptor_for}
use Rattle.kernel_core.specs.Machine.{Machine, is_ended}
use Rattle.kernel_core.specs.Runs.{frames_of, kept, peak, run}
use Rattle.kernel_core.specs.Step.{after_outcome, after_thread, guest_calls, step, step_by, thread_outcome}
use Rattle.kernel_core.specs.declared.thread.Thread.{Thread}
use Rattle.lwc_base.specs.World.{World}
use Rattle.lwc_base.specs.declared.descriptor.Descriptor.{Descriptor}
use Rattle.lwc_base.specs.declared.descriptor.Descriptor.TheVariants.{Empty}
use Rattle.lwc_types.specs.declared.key.TheConstants.{SLOTS}
use Rattle.lwc_types.specs.declared.fault.ThreadStatus.{ThreadStatus}
use Rattle.lwc_types.specs.declared.fault.ThreadStatus.TheVariants as status
use Rattle.lwc_types.specs.declared.name.Name.{Name}
use Rattle.blank_steps.specs.Blanks.{ActsOutside, blank_in}
use Rattle.world_views.specs.Outside.{IsOutside}
use Rattle.kernel_core.proofs.Runs.{step_of_ended}
use Rattle.blank_steps.proofs.Stepping.{step_blank}
use Rattle.world_views.proofs.BlankChanges.{blanks-alike}
use Rattle.world_views.specs.Blank.{blank}

-- a step of a run leaves a run
pub stays_run : (m : Machine) (t : ℕ) → m.serve ≡ None → (step m t).serve ≡ None
unfolding step_by
stays_run m t run = by (slice_get m.threads t)
  where
    by_status : (x : Thread) (s : ThreadStatus) → (after_outcome m t (thread_outcome guest_calls t m.environment None m.text x s)).serve ≡ None
    by_status x status.Running = refl
    by_status x status.Idle = refl
    by_status x (status.Done code) = run
    by_status x (status.Faulted f) = run

    by : (o : Option Thread) → (after_thread guest_calls m t o).serve ≡ None
    by None = run
    by (Some x) = ap (λ s. (after_outcome m t (thread_outcome guest_calls t m.environment s m.text x x.status)).serve) run ∙ by_status x x.status

-- so it is of each thread that makes one of these steps, at that moment
abbrev pub ActOutside : Name → Machine → List ℕ → Type 0
ActOutside v m [] = Unit {0}
ActOutside v m (t ∷ ts) = ActsOutside v m t × ActOutside v (step m t) ts

-- who is outside a context, is so where one is blank, and the other way round
module _ (keep : Bool) (u v : Name) (w : World) (c : Name) where
  descriptor : (n : ℕ) → descriptor_for (blank keep u w) c n ≡ descriptor_for w c n
  unfolding descriptor_for
  descriptor n = ap (λ (d : Descriptor). cond (nat_lt n SLOTS) d Empty) ((blanks-alike keep u w).slot c n)

  pub outside-blank : (own : ℕ) → IsOutside v c own w → IsOutside v c own (blank keep u w)
  outside-blank own is = record { context = is.context; new = is.new; shut = λ n cap e. is.shut n cap (sym (descriptor n) ∙ e); pages = is.pages }

  pub outside-back : (own : ℕ) → IsOutside v c own (blank keep u w) → IsOutside v c own w
  outside-back own is = record { context = is.context; new = is.new; shut = λ n cap e. is.shut n cap (descriptor n ∙ e); pages = is.pages }

module _ (u v : Name) where
  acts-blank : (m : Machine) (t : ℕ) → ActsOutside v m t → ActsOutside v (blank_in u m) t
  acts-blank m t is x found runs = outside-blank true u v m.environment.world x.context x.job (is x found runs)

  acts-back : (m : Machine) (t : ℕ) → ActsOutside v (blank_in u m) t → ActsOutside v m t
  acts-back m t is x found runs = outside-back true u v m.environment.world x.context x.job (is x found runs)

-- and so it is of steps
pub act-blank : (u v : Name) (m : Machine) (steps : List ℕ) → m.serve ≡ None → ActOutside u m steps → ActOutside v m steps → ActOutside v (blank_in u m) steps
act-blank u v m [] run first is = tt
act-blank u v m (t ∷ ts) run first is =
    (acts-blank u v m t is.0, subst (λ n. ActOutside v n ts) (sym (step_blank u m t run first.0)) (act-blank u v (step m t) ts (stays_run m t run) first.1 is.1))

pub act-back : (u v : Name) (m : Machine) (steps : List ℕ) → m.serve ≡ None → ActOutside u (blank_in u m) steps → ActOutside v (blank_in u m) steps → ActOutside v m steps
act-back u v m [] run first is = tt
act-back u v m (t ∷ ts) run first is =
    let here : ActsOutside u m t = acts-back u u m t first.0 in
    let same : step (blank_in u m) t ≡ blank_in u (step m t) = step_blank u m t run here in
    (acts-back u v m t is.0, act-back u v (step m t) ts (stays_run m t run) (subst (λ n. ActOutside u n ts) same first.1) (subst (λ n. ActOutside v n ts) same is.1))

module _ (v : Name) where
  ended-blank : (m : Machine) (t : ℕ) → is_ended (blank_in v m) t ≡ is_ended m t
  unfolding is_ended
  ended-blank m t = refl

  pub run-blank : (m : Machine) (steps : List ℕ) → m.serve ≡ None → ActOutside v m steps → run (blank_in v m) steps ≡ blank_in v (run m steps)
  run-blank m [] none is = refl
  run-blank m (t ∷ ts) none is = ap (λ n. run n ts) (step_blank v m t none is.0) ∙ run-blank (step m t) ts (stays_run m t none) is.1

  pub kept-blank : (m : Machine) (steps : List ℕ) → m.serve ≡ None → ActOutside v m steps → kept (blank_in v m) steps ≡ kept m steps
  kept-blank m [] none is = refl
  kept-blank m (t ∷ ts) none is =
      ap (λ b. cond b (kept (blank_in v m) ts) (t ∷ kept (step (blank_in v m) t) ts)) (ended-blank m t)
      ∙ by (is_ended m t) refl (kept-blank m ts none)
      (ap (λ n. t ∷ kept n ts) (step_blank v m t none is.0) ∙ ap (λ us. t ∷ us) (kept-blank (step m t) ts (stays_run m t none) is.1))
    where
      by : (b : Bool) → is_ended m t ≡ b → (ActOutside v m ts → kept (blank_in v m) ts ≡ kept m ts) →
          t ∷ kept (step (blank_in v m) t) ts ≡ t ∷ kept (step m t) ts →
          cond b (kept (blank_in v m) ts) (t ∷ kept (step (blank_in v m) t) ts) ≡ cond b (kept m ts) (t ∷ kept (step m t) ts)
      by true ended here later = here (subst (λ n. ActOutside v n ts) (step_of_ended m t ended) is.1)
      by false ended here later = later

  pub frames-blank : (m : Machine) → frames_of (blank_in v m) ≡ frames_of m
  frames-blank m = (blanks-alike true v m.environment.world).used

  pub peak-blank : (m : Machine) (steps : List ℕ) → m.serve ≡ None → ActOutside v m steps → peak (blank_in v m) steps ≡ peak m steps
  peak-blank m [] none is = frames-blank m
  peak-blank m (t ∷ ts) none is =
      ap (λ n. max n (peak (step (blank_in v m) t) ts)) (frames-blank m)
      ∙ ap (max (frames_of m)) (ap (λ n. peak n ts) (step_blank v m t none is.0) ∙ peak-blank (step m t) ts (stays_run m t none) is.1)
