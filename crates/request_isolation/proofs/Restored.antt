-- The homes of a serve are as at the start, and at rest nothing else is there.
use Rattle.std.proofs.Common.{◌≡◌, ◌≢◌, inl, inr, ℕ, ◌<◌, refl, sym, ap, ◌∙◌, Bool, true, false, cond, Option, Some, None, List, [], ◌∷◌, length, arith}
use Rattle.std.specs.FinMap as fm
use Rattle.std.specs.Option.{option_map_or}
use Rattle.std.specs.Prelude.{is_some, slice_get, unwrap_or}
use Rattle.std.proofs.lemmas.Bool.{false≢true}
use Rattle.guest_image.specs.Limits.{IsImage}
use Rattle.guest_image.specs.declared.image.Image.{Image}
use Rattle.kernel_core.specs.Machine.{Machine, Serve, has_ended, home_of, is_ended}
use Rattle.kernel_core.specs.Runs.{frames_of, run}
use Rattle.kernel_core.specs.Start.{home_context}
use Rattle.kernel_core.specs.declared.thread.Thread.{Thread}
use Rattle.lwc_base.specs.Holders.{IsGroup}
use Rattle.lwc_base.specs.World.{Context, Group, World, context, is_live, new_context}
use Rattle.lwc_base.proofs.Facts.{orders}
use Rattle.lwc_types.specs.Names.{name_cmp}
use Rattle.lwc_types.specs.Registers.{fresh_registers}
use Rattle.lwc_types.specs.declared.fault.ThreadStatus.TheVariants.{Running}
use Rattle.lwc_types.specs.declared.name.Name.{Name}
use Rattle.kernel_core.proofs.HomeStart.{at_home, home_at, is_home}
use Rattle.request_isolation.specs.Restored.{AllRest, IsServed}
use Rattle.guest_machine.specs.Advances.{advanced}
use Rattle.kernel_core.specs.Step.{AfterStep, step}
use Rattle.request_isolation.proofs.Apart.{acts_apart}
use Rattle.request_isolation.proofs.Bounds.{used_least}
use Rattle.request_isolation.proofs.Enough.{fits}
use Rattle.request_isolation.proofs.Extra.{image_tags}
use Rattle.request_isolation.proofs.Holds.{Holds, home_stays, ready_serve, serving_now}
use Rattle.request_isolation.proofs.Homes.{home_for}
use Rattle.request_isolation.proofs.Reached.{IsServedBy, of_group, of_live}
use Rattle.request_isolation.proofs.Stages.{Begins, Ends, Finishes, Goes, How, Stands, acted_by, stands_step}

-- once all threads have ended no worker serves a request
pub ended_rest : (m : Machine) → ((t : ℕ) → is_ended m t ≡ true) → AllRest m
unfolding is_ended
ended_rest m ended t x found runs =
    let is : has_ended x.status ≡ true = ap (λ (o : Option Thread). option_map_or (λ (y : Thread). has_ended y.status) o true) (sym found) ∙ ended t in
    false≢true (sym (ap has_ended runs) ∙ is)

module _ (image : Image) (workers budget n : ℕ) (m : Machine) (s : Serve) (holds : Holds image workers budget n m s) where
  abbrev w : World
  w = m.environment.world

  served : (job : ℕ) → IsServedBy m.threads job → IsServed m job
  served job by = record { number = by.number; thread = by.thread; found = by.found; running = by.running; job_is = by.job_is }

  pub other_served : (c : Name) → c.job ≢ 0 → is_live w c ≡ true → IsServed m c.job
  other_served c other live =
      elim (of_live image workers budget n m s holds c live) [
        | inl home ↦ absurd (other (ap (λ (d : Name). d.job) home.2))
        | inr by ↦ served c.job by
      ]

  pub group_served : (g : Name) → IsGroup w g → IsServed m g.job
  group_served g live = served g.job (of_group image workers budget n m s holds g live)

  -- what is under a name, if it is one of a home's
  abbrev AtHome : Name → Option Context
  AtHome c = cond (is_home workers c) (Some (home_context image)) None

  home_live : (c : Name) → is_home workers c ≡ true → is_live w c ≡ true
  home_live c there =
      let at = home_at workers c there in ap (is_live w) at.2 ∙ (ready_serve holds).live at.0 (omega (arith, at.1, holds.own_workers))

  none_found : (c : Name) → fm.get w.contexts c ≡ None → fm.get w.contexts c ≡ AtHome c
  none_found c is = is ∙ sym (ap (λ b. cond b (Some (home_context image)) None) (by_test (is_home workers c) refl))
    where
      by_test : (b : Bool) → is_home workers c ≡ b → is_home workers c ≡ false
      by_test false is_none = is_none
      by_test true there = absurd (false≢true (sym (ap is_some is) ∙ home_live c there))

  some_found : (c : Name) (x : Context) → fm.get w.contexts c ≡ Some x → (t : ℕ) × (t < workers) × (c ≡ home_of t) → fm.get w.contexts c ≡ AtHome c
  unfolding context
  some_found c x is home =
      let own : x ≡ home_context image = ap (λ (o : Option Context). unwrap_or o (new_context 0 (fresh_registers 0))) (sym is) ∙ ap (context w) home.2 ∙ home_stays holds home.0 home.1 in
      let there : is_home workers c ≡ true = ap (is_home workers) home.2 ∙ at_home workers home.0 home.1 in
      is ∙ ap Some own ∙ sym (ap (λ b. cond b (Some (home_context image)) None) there)

  pub home_found : (c : Name) → c.job ≡ 0 → fm.get w.contexts c ≡ AtHome c
  home_found c nobody = by_found (fm.get w.contexts c) refl
    where
      by_found : (o : Option Context) → fm.get w.contexts c ≡ o → fm.get w.contexts c ≡ AtHome c
      by_found None is = none_found c is
      by_found (Some x) is =
          elim (of_live image workers budget n m s holds c (ap is_some is)) [
            | inl home ↦ some_found c x is home
            | inr by ↦ let some = by.some in absurd (omega (arith, some, nobody))
          ]

  -- at rest
  module _ (rest : AllRest m) where
    nobody_served : (job : ℕ) → IsServedBy m.threads job → ⊥
    nobody_served job by = rest by.number by.thread by.found by.running

    pub rest_found : (c : Name) → fm.get w.contexts c ≡ AtHome c
    rest_found c = by_found (fm.get w.contexts c) refl
      where
        by_found : (o : Option Context) → fm.get w.contexts c ≡ o → fm.get w.contexts c ≡ AtHome c
        by_found None is = none_found c is
        by_found (Some x) is =
            elim (of_live image workers budget n m s holds c (ap is_some is)) [
              | inl home ↦ some_found c x is home
              | inr by ↦ absurd (nobody_served c.job by)
            ]

    no_group : (g : Name) → fm.get w.groups g ≡ None
    no_group g = by_found (fm.get w.groups g) refl
      where
        by_found : (o : Option Group) → fm.get w.groups g ≡ o → fm.get w.groups g ≡ None
        by_found None is = is
        by_found (Some x) is = absurd (nobody_served g.job (of_group image workers budget n m s holds g (ap is_some is)))

    pub rest_groups : w.groups ≡ fm.empty
    rest_groups = fm.same_map orders.names orders.one_name w.groups fm.empty (λ g. no_group g ∙ sym (fm.get-empty name_cmp g))

    pub rest_frames : IsImage image → frames_of m ≡ length image.pages
    rest_frames is =
        let most = fits image workers budget n m s holds 0 (λ job by. absurd (nobody_served job by)) in
        let one : ℕ = 1 in
        let some_job : one ≢ 0 = λ e. omega (arith, e) in
        let least = used_least one (length image.pages) w some_job (image_tags image w is holds.jobs) in
        omega (arith, most, least)

-- two machines of a serve have the same homes, and at rest the same contexts
module _ (image : Image) (workers budget n : ℕ) (m : Machine) (s : Serve) (holds : Holds image workers budget n m s) (a : Machine) (sa : Serve) (also : Holds image workers budget n a sa) where
  pub homes_same : (c : Name) → c.job ≡ 0 → fm.get m.environment.world.contexts c ≡ fm.get a.environment.world.contexts c
  homes_same c nobody = home_found image workers budget n m s holds c nobody ∙ sym (home_found image workers budget n a sa also c nobody)

  pub contexts_same : AllRest m → AllRest a → m.environment.world.contexts ≡ a.environment.world.contexts
  contexts_same rest too =
      fm.same_map orders.names orders.one_name m.environment.world.contexts a.environment.world.contexts
      (λ c. rest_found image workers budget n m s holds rest c ∙ sym (rest_found image workers budget n a sa also too c))

-- nothing is on the console
abbrev pub IsSilentNow : Machine → Serve → Type 0
IsSilentNow m s = m.environment.channels.console ≡ []

module _ (image : Image) (workers budget n : ℕ) where
  silent_act : (m : Machine) (s : Serve) (holds : Holds image workers budget n m s) (t : ℕ) (x : Thread) → slice_get m.threads t ≡ Some x → x.status ≡ Running →
      (acted_by m t x).environment.channels.console ≡ m.environment.channels.console
  silent_act m s holds t x found running =
      let here = serving_now holds t x found running in
      (acts_apart (home_for image) t m.environment x (advanced m.text x.regs) here.0 (λ none. let some = here.1 in omega (arith, none, some)) holds.jobs).apart.console

  silent_how : (m : Machine) (s : Serve) (holds : Holds image workers budget n m s) (t : ℕ) (x : Thread) → slice_get m.threads t ≡ Some x → (acted : ℕ) (after : AfterStep) (now : Serve) → How m s t x acted after now →
      after.environment.channels.console ≡ m.environment.channels.console
  silent_how m s holds t x found _ _ _ (Finishes running ended) = silent_act m s holds t x found running
  silent_how m s holds t x found _ _ _ (Goes running going) = silent_act m s holds t x found running
  silent_how m s holds t x found _ _ _ (Begins idle some) = refl
  silent_how m s holds t x found _ _ _ (Ends idle none) = refl

  pub silent_run : (m : Machine) (steps : List ℕ) → Stands image budget workers n IsSilentNow m → Stands image budget workers n IsSilentNow (run m steps)
  silent_run m [] stands = stands
  silent_run m (t ∷ ts) stands =
      silent_run (step m t) ts
      (stands_step image budget workers n IsSilentNow IsSilentNow m t stands (λ fact. fact)
      (λ made. silent_how m stands.serve stands.holds t made.thread made.found made.acted made.after made.now made.how ∙ stands.fact))
