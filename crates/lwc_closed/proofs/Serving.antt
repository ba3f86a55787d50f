-- In a serve, steps that are made for other requests keep to each fence over the contexts of one.
use Rattle.std.proofs.Common.{◌≡◌, ◌≢◌, ◌⊎◌, inl, inr, ℕ, ◌+◌, ◌-◌, ◌≤◌, ◌==◌, ◌&&◌, ◌||◌, Bool, true, false, Some, List, [], ◌∷◌, refl, sym, ap, subst, ◌∙◌, length, arith}
use Rattle.std.specs.Ordering.{eq_by_cmp}
use Rattle.std.specs.Prelude.{nat_le, slice_get, slice_set}
use Rattle.std.proofs.lemmas.Bool.Decides.{nat_tests}
use Rattle.confinement.proofs.EachRun.{its_fence}
use Rattle.confinement.proofs.Fenced.{one_cell}
use Rattle.confinement.proofs.Fencing.{keeps_to, leaves_outside}
use Rattle.confinement.specs.Closed.{IsClosed}
use Rattle.confinement.specs.Fences.{Fence, fence_of, IsInsideOrSeen, KeepsTo, LeavesOutside, MayBeInside, StaysInside}
use Rattle.confinement.specs.May.{world_of}
use Rattle.guest_image.specs.declared.image.Image.{Image}
use Rattle.kernel_core.specs.Kernel.{CanOpen}
use Rattle.kernel_core.specs.Machine.{Machine, Serve}
use Rattle.kernel_core.specs.Runs.{run}
use Rattle.kernel_core.specs.Start.{Inputs, start}
use Rattle.kernel_core.specs.Step.{AfterStep, after_outcome, step}
use Rattle.kernel_core.specs.declared.settings.Job.TheVariants as jobs
use Rattle.kernel_core.specs.declared.thread.Thread.{Thread}
use Rattle.lwc_base.proofs.Common.{group_of_cell}
use Rattle.lwc_base.proofs.Puts.{live_of_common}
use Rattle.lwc_base.specs.Cells.{slot_at}
use Rattle.lwc_base.specs.Clones.{HaveInCommon}
use Rattle.lwc_base.specs.Holders.{InCell}
use Rattle.lwc_base.specs.Modes.{IsKey}
use Rattle.lwc_base.specs.World.{World, context}
use Rattle.lwc_base.specs.declared.cell.Cell.TheVariants.{Common}
use Rattle.lwc_types.proofs.Orders.{same_name}
use Rattle.lwc_types.specs.Names.{name_cmp}
use Rattle.lwc_types.specs.declared.fault.ThreadStatus.TheVariants.{Running}
use Rattle.lwc_types.specs.declared.key.Key.{Key}
use Rattle.lwc_types.specs.declared.key.Key.TheVariants.{Slot}
use Rattle.lwc_types.specs.declared.name.Name.{Name}
use Rattle.lwc_closed.specs.Requests.{IsOfAnother, IsOver, StayInsideOrServeOthers}
use Rattle.request_isolation.proofs.Holds.{Holds, Leaves, holds_after, serving_now, unseen_served}
use Rattle.request_isolation.proofs.Homes.{home_for}
use Rattle.request_isolation.proofs.Isolated.{stands_run, stands_start}
use Rattle.request_isolation.proofs.Roots.{who}
use Rattle.request_isolation.proofs.Stages.{Begins, Ends, Finishes, Goes, How, Made, Stands, how_step, leaves_by, made_or_not, stands_step}
use Rattle.request_isolation.specs.Restored.{IsServed}
use Rattle.world_views.proofs.Together.{answers-alike}
use Rattle.world_views.specs.ByJob.{LooksAlike, by_job}
use Rattle.world_views.specs.JobFacts.{AnswersAlike}
use Rattle.world_views.specs.Views.{view}

-- a serve holds
abbrev Stood : Image → ℕ → ℕ → ℕ → Machine → Type 0
Stood image budget workers n m = Stands image budget workers n (λ m s. Unit {0}) m

module _ (image : Image) (workers budget n : ℕ) (m : Machine) (s : Serve) (holds : Holds image workers budget n m s) where
  -- contexts that have a key in common are of one job
  one_job : (c d : Name) (k : Key) → HaveInCommon (world_of m) c d k → d.job ≡ c.job
  one_job c d k both =
      let group_job : (e : Name) → (context (world_of m) e).cell k ≡ Common both.group → both.group.job ≡ e.job = λ e is.
      subst (InCell (by_job (home_for image)) e.job k) is (holds.jobs.kept.contexts e (live_of_common (world_of m) e k both.group is) k) in
      sym (group_job d both.second) ∙ group_job c both.first

module _ (image : Image) (workers budget n : ℕ) (m : Machine) (s : Serve) (holds : Holds image workers budget n m s) where
  module _ (f : Fence) (job t : ℕ) (over : IsOver f job) (keeps : KeepsTo f m) (another : IsOfAnother m job t) (made : Made m s t) where
    abbrev v : World
    v = world_of (after_outcome m t (Some made.after))

    abbrev server : IsServed m job
    server = another.served

    -- the request of the job is begun
    begun : (1 ≤ job) × (job ≤ s.next)
    begun =
        let own = serving_now holds server.number server.thread server.found server.running in
        subst (λ (j : ℕ). (1 ≤ j) × (j ≤ s.next)) server.job_is (own.1, own.2)

    -- the step is not made for it
    not_for : (acted : ℕ) (after : AfterStep) (now : Serve) → How m s t made.thread acted after now → acted ≢ job
    not_for _ _ _ (Finishes running ended) same = another.other made.thread made.found same
    not_for _ _ _ (Goes running going) same = another.other made.thread made.found same
    not_for _ _ _ (Begins idle some) same = let low = begun.1 in omega (arith, low, same)
    not_for _ _ _ (Ends idle none) same = let some = begun.0 in omega (arith, some, same)

    other_job : made.acted ≢ job
    other_job = not_for made.acted made.after made.now made.how

    abbrev leaves : Leaves image m s t made.acted made.thread made.after made.now
    leaves = leaves_by image budget workers n m s holds t made.thread made.found made.acted made.after made.now made.how

    after_holds : Holds image workers budget n (after_outcome m t (Some made.after)) made.now
    after_holds = holds_after image workers budget n m s holds t made.thread made.found made.acted made.after made.now leaves

    not_it : server.number ≢ t
    not_it same =
        let there : slice_get m.threads t ≡ Some server.thread = ap (λ (u : ℕ). slice_get m.threads u) (sym same) ∙ server.found in
        another.other server.thread there server.job_is

    abbrev r : ℕ
    r = job - 1

    job_is : r + 1 ≡ job
    job_is = let some = begun.0 in omega (arith, some)

    -- the job sees the same as before
    same_view : view job 0 v ≡ view job 0 (world_of m)
    same_view =
        subst (λ (j : ℕ). view j 0 v ≡ view j 0 (world_of m)) job_is
        (unseen_served image workers budget n m s holds t made.thread made.found made.acted made.after made.now leaves r server.number server.thread
        (λ same. other_job (same ∙ job_is)) server.found server.running (server.job_is ∙ sym job_is) not_it 0)

    alike : (c : Name) → c.job ≡ job → LooksAlike (home_for image) c.job 0 0 v (world_of m)
    alike c own = record {
      some_job = λ none. let some = begun.0 in omega (arith, some, none, own);
      first = after_holds.jobs;
      second = holds.jobs;
      seen = subst (λ (j : ℕ). view j 0 v ≡ view j 0 (world_of m)) (sym own) same_view;
    }

    asked : (c : Name) → c.job ≡ job → AnswersAlike 0 0 c v (world_of m)
    asked c own = answers-alike (home_for image) 0 0 c v (world_of m) (alike c own)

    same_cell : (c : Name) (k : Key) → c.job ≡ job → (context v c).cell k ≡ (context (world_of m) c).cell k
    same_cell c k own = ap (λ x. x.cell k) (asked c own).seen

    slot_stays : (c : Name) (slot : ℕ) → c.job ≡ job → MayBeInside f (slot_at (world_of m) c slot) → MayBeInside f (slot_at v c slot)
    slot_stays c slot own before = subst (MayBeInside f) (sym ((asked c own).value (Slot slot))) before

    own_of : (d : Name) (k : Key) → IsInsideOrSeen f d k → d.job ≡ job
    own_of d k (inl inside) = over.inside d inside
    own_of d k (inr seen) = over.seen d k seen

    common_stays : (d e : Name) (k : Key) → IsInsideOrSeen f d k → IsKey v.size.pages k → HaveInCommon v d e k → IsInsideOrSeen f e k
    common_stays d e k seen key both =
        let own = own_of d k seen in
        let also : e.job ≡ job = one_job_after d e k both ∙ own in
        let first : (context (world_of m) d).cell k ≡ Common both.group = sym (same_cell d k own) ∙ both.first in
        let second : (context (world_of m) e).cell k ≡ Common both.group = sym (same_cell e k also) ∙ both.second in
        keeps.common d e k seen (subst (λ (pages : ℕ). IsKey pages k) (asked d own).pages key)
        (record { group = both.group; live = group_of_cell (world_of m) holds.ready.sound.groups d k both.group first; first = first; second = second })
      where
        one_job_after : (c d : Name) (k : Key) → HaveInCommon v c d k → d.job ≡ c.job
        one_job_after = one_job image workers budget n (after_outcome m t (Some made.after)) made.now after_holds

    later_stays : (u : ℕ) (y : Thread) (k : ℕ) → slice_get (slice_set m.threads t made.after.thread) u ≡ Some y → y.status ≡ Running → f.inside y.context ≡ true → (v.next y.job).contexts ≤ k →
        f.inside (record { job = y.job; k = k }) ≡ true
    later_stays u y k found runs inside more = elim (who m.threads t made.thread made.after.thread made.found u y found) [
      | inl here ↦ absurd (other_job (sym (leaves.after_job (ap (λ (z : Thread). z.status) here.1 ∙ runs)) ∙ ap (λ (z : Thread). z.job) here.1 ∙ own))
      | inr there ↦ keeps.later u y k there.1 runs inside
          (let next = ap (λ x. x.contexts) (asked y.context in_job).next in let same = ap (λ (j : ℕ). (v.next j).contexts) stands.0 in let also = ap (λ (j : ℕ). ((world_of m).next j).contexts) stands.0 in omega (arith, next, same, also, more))
    ]
      where
        stands : (y.context.job ≡ y.job) × (1 ≤ y.job) × (y.job ≤ made.now.next)
        stands = serving_now after_holds u y found runs

        in_job : y.context.job ≡ job
        in_job = over.inside y.context inside

        own : y.job ≡ job
        own = sym stands.0 ∙ in_job

    pub keeps_then : KeepsTo f (after_outcome m t (Some made.after))
    keeps_then = record {
      slots = λ c slot inside low. slot_stays c slot (over.inside c inside) (keeps.slots c slot inside low);
      opened = λ d slot opened low. slot_stays d slot (over.opened d (Slot slot) opened) (keeps.opened d slot opened low);
      seen = keeps.seen;
      common = common_stays;
      later = later_stays;
    }

module _ (image : Image) (workers budget n : ℕ) (f : Fence) (job : ℕ) (over : IsOver f job) where
  -- a step that is made for another request keeps to the fence
  of_another : (m : Machine) (t : ℕ) → Stood image budget workers n m → KeepsTo f m → IsOfAnother m job t → KeepsTo f (step m t)
  of_another m t stood keeps another =
      elim (made_or_not m stood.serve t stood.holds.is) [
        | inl same ↦ subst (KeepsTo f) (sym same) keeps
        | inr made ↦
            subst (KeepsTo f) (sym (how_step m stood.serve t made.thread made.acted made.after made.now stood.holds.is made.found made.how))
            (keeps_then image workers budget n m stood.serve stood.holds f job t over keeps another made)
      ]

  pub kept_among : (ts : List ℕ) (m : Machine) → Stood image budget workers n m → KeepsTo f m → StayInsideOrServeOthers f job m ts → KeepsTo f (run m ts)
  kept_among [] m stood keeps stay = keeps
  kept_among (t ∷ ts) m stood keeps stay =
      kept_among ts (step m t) (stands_step image budget workers n (λ m s. Unit {0}) (λ m s. Unit {0}) m t stood (λ fact. fact) (λ made. tt)) (by_side stay.0) stay.1
    where
      by_side : StaysInside f m t ⊎ IsOfAnother m job t → KeepsTo f (step m t)
      by_side (inl inside) = keeps_to stood.holds.inputs stood.holds.steps m t stood.holds.ready f keeps inside
      by_side (inr another) = of_another m t stood keeps another

module _ (inputs : Inputs) (workers : ℕ) (can : CanOpen inputs) (serve : inputs.settings.job ≡ jobs.Serve workers) where
  abbrev at : List ℕ → Machine
  at steps = run (start inputs) steps

  stood_at : (steps : List ℕ) → Stood inputs.image inputs.settings.budget workers (length inputs.requests) (at steps)
  stood_at steps = stands_run inputs.image workers inputs.settings.budget (length inputs.requests) (start inputs) steps (stands_start inputs workers can serve)

  stood_then : (before during : List ℕ) → Stood inputs.image inputs.settings.budget workers (length inputs.requests) (run (at before) during)
  stood_then before during = stands_run inputs.image workers inputs.settings.budget (length inputs.requests) (at before) during (stood_at before)

  pub kept_in_serve : (before during : List ℕ) (job : ℕ) (f : Fence) → IsOver f job → KeepsTo f (at before) → StayInsideOrServeOthers f job (at before) during → KeepsTo f (run (at before) during)
  kept_in_serve before during job f over keeps stay =
      kept_among inputs.image workers inputs.settings.budget (length inputs.requests) f job over during (at before) (stood_at before) keeps stay

  pub leaves_in_serve : (before during : List ℕ) (t job : ℕ) (f : Fence) → IsOver f job → KeepsTo f (at before) → StayInsideOrServeOthers f job (at before) during → StaysInside f (run (at before) during) t →
      LeavesOutside f (world_of (run (at before) during)) (world_of (step (run (at before) during) t))
  leaves_in_serve before during t job f over keeps stay inside =
      let holds = (stood_then before during).holds in
      leaves_outside holds.inputs holds.steps (run (at before) during) t holds.ready f (kept_in_serve before during job f over keeps stay) inside

  -- the fence of a context is over the names of its job
  module _ (steps : List ℕ) (c : Name) where
    abbrev w : World
    w = world_of (at steps)

    abbrev stood : Stood inputs.image inputs.settings.budget workers (length inputs.requests) (at steps)
    stood = stood_at steps

    inside_job : (d : Name) → (fence_of w c c.job).inside d ≡ true → d.job ≡ c.job
    inside_job d inside = by_test (eq_by_cmp name_cmp d c) refl inside
      where
        by_test : (b : Bool) → eq_by_cmp name_cmp d c ≡ b → b || ((d.job == c.job) && nat_le (w.next c.job).contexts d.k) ≡ true → d.job ≡ c.job
        by_test true same is = ap (λ (e : Name). e.job) (same_name d c same)
        by_test false other is = grind (arith, nat_tests)

    seen_job : (d : Name) (k : Key) → (fence_of w c c.job).seen d k ≡ true → d.job ≡ c.job
    seen_job d k seen =
        let one = one_cell ((context w c).cell k) ((context w d).cell k) seen in
        one_job inputs.image workers inputs.settings.budget (length inputs.requests) (at steps) stood.serve stood.holds c d k
        (record { group = one.0; live = group_of_cell w stood.holds.ready.sound.groups c k one.0 one.1; first = one.1; second = one.2 })

    pub over_its_job : IsOver (fence_of w c c.job) c.job
    over_its_job = record {
      inside = inside_job;
      opened = λ d k opened. let no : false ≡ true = opened in absurd cc;
      seen = seen_job;
    }

    of_its_job : (t : ℕ) (x : Thread) → slice_get (at steps).threads t ≡ Some x → x.status ≡ Running → x.context ≡ c → x.job ≡ c.job
    of_its_job t x found runs here = sym (serving_now stood.holds t x found runs).0 ∙ ap (λ (d : Name). d.job) here

    pub closed_in_serve : (during : List ℕ) → IsClosed w c → StayInsideOrServeOthers (fence_of w c c.job) c.job (at steps) during → KeepsTo (fence_of w c c.job) (run (at steps) during)
    closed_in_serve during closed stay =
        kept_in_serve steps during c.job (fence_of w c c.job) over_its_job (its_fence inputs can steps c c.job closed of_its_job) stay
