-- Where the workers of a serve are, and which names are roots.
use Rattle.std.proofs.Common.{◌≡◌, ◌≢◌, ◌⊎◌, inl, inr, ℕ, zero, suc, ◌+◌, ◌≤◌, ◌<◌, refl, sym, ap, subst, ◌∙◌, Bool, true, false, ◌||◌, Some, List, [], ◌∷◌, arith}
use Rattle.std.specs.Prelude.{All, slice_get, slice_set}
use Rattle.std.specs.Ordering.{eq_by_cmp}
use Rattle.std.proofs.lemmas.List.Folds.{list_any-append}
use Rattle.kernel_core.specs.Machine.{Serve, home_of, homes_of}
use Rattle.kernel_core.specs.Step.{contexts_of, roots}
use Rattle.kernel_core.specs.declared.thread.Thread.{Thread}
use Rattle.lwc_base.specs.Life.{is_among}
use Rattle.lwc_types.specs.Names.{name_cmp}
use Rattle.lwc_types.specs.declared.fault.ThreadStatus.{ThreadStatus}
use Rattle.lwc_types.specs.declared.fault.ThreadStatus.TheVariants.{Idle, Running, Done, Faulted}
use Rattle.lwc_types.specs.declared.name.Name.{Name}
use Rattle.world_views.proofs.JobPlainly.{slice_get-other}
use Rattle.kernel_core.proofs.Afters.{home_job, home_there}
use Rattle.kernel_core.proofs.Others.{found_set}
use Rattle.kernel_core.specs.Ready.{HasItsJob, IsWorker}
use Rattle.lwc_base.proofs.Life.{or_right}
use Rattle.lwc_types.proofs.Orders.{name-itself, same_name}
use Rattle.std.proofs.lemmas.Bool.{cases_eq, or_cases}
use Rattle.std.proofs.lemmas.List.Elements.{All-get_or}
use Rattle.std.proofs.lemmas.Option.{get_or_from_slice_get, slice_get_within}
use Rattle.lwc_types.proofs.Small.{same_bool}

pub running_or_not : (s : ThreadStatus) → (s ≡ Running) ⊎ (s ≢ Running)
running_or_not Running = inl refl
running_or_not Idle = inr (λ e. cc)
running_or_not (Done code) = inr (λ e. cc)
running_or_not (Faulted f) = inr (λ e. cc)

-- running workers serve different requests, and the others are at home
pub record Placed (threads : List Thread) : Type 0 where
  pub resting : (t : ℕ) (x : Thread) → slice_get threads t ≡ Some x → x.status ≢ Running → x.context ≡ home_of t
  pub once : (t u : ℕ) (x y : Thread) → slice_get threads t ≡ Some x → slice_get threads u ≡ Some y → x.status ≡ Running → y.status ≡ Running → x.job ≡ y.job → t ≡ u

-- a running worker is in a context of its job, and that is the job of a request that is begun
pub serving : (threads : List Thread) (s : Serve) → All (IsWorker s) threads → (t : ℕ) (x : Thread) → slice_get threads t ≡ Some x → x.status ≡ Running →
    (x.context.job ≡ x.job) × (1 ≤ x.job) × (x.job ≤ s.next)
serving threads s workers t x found running =
    let worker : IsWorker s x =
    subst (λ (y : Thread). IsWorker s y) (get_or_from_slice_get threads t x x found) (All-get_or (IsWorker s) threads t x (slice_get_within threads t x found) workers) in
    let job : (1 ≤ x.job) × (x.job ≤ s.next) = subst (λ (st : ThreadStatus). HasItsJob s st x.job) running worker.job in (worker.here, job.0, job.1)

-- nobody serves a request
abbrev pub Nobody : List Thread → ℕ → Type 0
Nobody threads r = (t : ℕ) (x : Thread) → slice_get threads t ≡ Some x → x.status ≡ Running → x.job ≢ r + 1

-- a worker is put elsewhere
module _ (threads : List Thread) (t : ℕ) (x y : Thread) (found : slice_get threads t ≡ Some x) where
  -- who is found afterwards
  pub who : (u : ℕ) (z : Thread) → slice_get (slice_set threads t y) u ≡ Some z → ((u ≡ t) × (y ≡ z)) ⊎ ((u ≢ t) × (slice_get threads u ≡ Some z))
  who u z is =
      elim (cases_eq u t) [
        | inl same ↦ inl (same, (let both : Some y ≡ Some z = sym (found_set threads t x y found) ∙ ap (slice_get (slice_set threads t y)) (sym same) ∙ is in cc))
        | inr apart ↦ inr (apart, sym (slice_get-other threads t u y (λ same. apart (sym same))) ∙ is)
      ]

  pub nobody_put : (r : ℕ) → (y.status ≡ Running → y.job ≢ r + 1) → Nobody threads r → Nobody (slice_set threads t y) r
  nobody_put r own nobody u z is runs =
      elim (who u z is) [
        | inl here ↦ subst (λ (v : Thread). v.status ≡ Running → v.job ≢ r + 1) here.1 own runs
        | inr there ↦ nobody u z there.1 runs
      ]

  module _ (placed : Placed threads) (fits : y.status ≡ Running → (u : ℕ) (z : Thread) → u ≢ t → slice_get threads u ≡ Some z → z.status ≡ Running → z.job ≢ y.job)
      (rests : y.status ≢ Running → y.context ≡ home_of t) where
    resting_put : (u : ℕ) (z : Thread) → slice_get (slice_set threads t y) u ≡ Some z → z.status ≢ Running → z.context ≡ home_of u
    resting_put u z is rest =
        elim (who u z is) [
          | inl here ↦ sym (ap (λ (v : Thread). v.context) here.1) ∙ rests (λ runs. rest (sym (ap (λ (v : Thread). v.status) here.1) ∙ runs)) ∙ ap home_of (sym here.0)
          | inr there ↦ placed.resting u z there.1 rest
        ]

    other_put : (u : ℕ) (z v : Thread) → y ≡ v → u ≢ t → slice_get threads u ≡ Some z → z.status ≡ Running → v.status ≡ Running → z.job ≢ v.job
    other_put u z v same apart is runs also = subst (λ (w : Thread). w.status ≡ Running → z.job ≢ w.job) same (λ also. fits also u z apart is runs) also

    once_put : (u v : ℕ) (z w : Thread) → slice_get (slice_set threads t y) u ≡ Some z → slice_get (slice_set threads t y) v ≡ Some w → z.status ≡ Running → w.status ≡ Running → z.job ≡ w.job → u ≡ v
    once_put u v z w is also runs too job =
        elim (who u z is) [
          | inl here ↦ elim (who v w also) [
            | inl same ↦ here.0 ∙ sym same.0
            | inr there ↦ absurd (other_put v w z here.1 there.0 there.1 too runs (sym job))
          ]
          | inr there ↦ elim (who v w also) [
            | inl same ↦ absurd (other_put u z w same.1 there.0 there.1 runs too job)
            | inr apart ↦ placed.once u v z w there.1 apart.1 runs too job
          ]
        ]

    pub placed_put : Placed (slice_set threads t y)
    placed_put = record { resting = resting_put; once = once_put }

none_by : (b : Bool) → (b ≡ true → ⊥) → b ≡ false
none_by true none = absurd (none refl)
none_by false none = refl

-- a name that is among contexts is a thread's
pub thread_at : (threads : List Thread) (c : Name) → is_among (contexts_of threads) c ≡ true → (t : ℕ) × (x : Thread) × (slice_get threads t ≡ Some x) × (c ≡ x.context)
thread_at [] c among = cc
thread_at (x ∷ xs) c among =
    elim (or_cases (eq_by_cmp name_cmp c x.context) (is_among (contexts_of xs) c) among) [
      | inl here ↦ (0, x, refl, same_name c x.context here)
      | inr later ↦ let rest = thread_at xs c later in (suc rest.0, rest.1, rest.2, rest.3)
    ]

at_thread : (threads : List Thread) (t : ℕ) (x : Thread) → slice_get threads t ≡ Some x → is_among (contexts_of threads) x.context ≡ true
at_thread [] t x found = cc
at_thread (y ∷ ys) zero x found =
    let same : y ≡ x = cc in
    ap (λ (z : Thread). eq_by_cmp name_cmp x.context z.context || is_among (contexts_of ys) x.context) same ∙ ap (λ b. b || is_among (contexts_of ys) x.context) (name-itself x.context)
at_thread (y ∷ ys) (suc t) x found = or_right (eq_by_cmp name_cmp x.context y.context) _ (at_thread ys t x found)

module _ (threads : List Thread) (s : Serve) where
  pub among_roots : (c : Name) → is_among (roots threads (Some s)) c ≡ (is_among (contexts_of threads) c || is_among (homes_of s.workers) c)
  among_roots c = list_any-append (eq_by_cmp name_cmp c) (contexts_of threads) (homes_of s.workers)

  pub home_root : (t : ℕ) → t < s.workers → is_among (roots threads (Some s)) (home_of t) ≡ true
  home_root t within = among_roots (home_of t) ∙ or_right _ _ (home_there s.workers t within)

  -- a root of the job of a request is where a worker of it is
  root_of : (r k : ℕ) → is_among (roots threads (Some s)) (record { job = r + 1; k = k }) ≡ true → (t : ℕ) × (x : Thread) × (slice_get threads t ≡ Some x) × (record { job = r + 1; k = k } ≡ x.context)
  root_of r k among =
      let c : Name = record { job = r + 1; k = k } in
      elim (or_cases (is_among (contexts_of threads) c) (is_among (homes_of s.workers) c) (sym (among_roots c) ∙ among)) [
        | inl here ↦ thread_at threads c here
        | inr home ↦ let none : r + 1 ≡ 0 = home_job 0 s.workers c home in absurd (omega (arith, none))
      ]

  module _ (workers : All (IsWorker s) threads) (placed : Placed threads) where
    -- whoever is in a context of the job of a request serves it
    owner : (r k t : ℕ) (x : Thread) → slice_get threads t ≡ Some x → record { job = r + 1; k = k } ≡ x.context → (x.status ≡ Running) × (x.job ≡ r + 1)
    owner r k t x found is =
        let here : r + 1 ≡ x.context.job = ap (λ (n : Name). n.job) is in
        elim (running_or_not x.status) [
          | inl runs ↦ (runs, sym (serving threads s workers t x found runs).0 ∙ sym here)
          | inr rests ↦ let home : x.context.job ≡ 0 = ap (λ (n : Name). n.job) (placed.resting t x found rests) in absurd (omega (arith, here, home))
        ]

    pub only_root : (r k t : ℕ) (x : Thread) → slice_get threads t ≡ Some x → x.status ≡ Running → x.job ≡ r + 1 →
        is_among (roots threads (Some s)) (record { job = r + 1; k = k }) ≡ eq_by_cmp name_cmp (record { job = r + 1; k = k }) x.context
    only_root r k t x found runs job =
        same_bool _ _
        (λ among.
        let at = root_of r k among in
        let own = owner r k at.0 at.1 at.2 at.3 in
        let same : at.0 ≡ t = placed.once at.0 t at.1 x at.2 found own.0 runs (own.1 ∙ sym job) in
        let one : at.1 ≡ x = let both : Some at.1 ≡ Some x = sym at.2 ∙ ap (slice_get threads) same ∙ found in cc in
        ap (λ (n : Name). eq_by_cmp name_cmp (record { job = r + 1; k = k }) n) (sym (at.3 ∙ ap (λ (z : Thread). z.context) one)) ∙ name-itself (record { job = r + 1; k = k }))
        (λ is.
        let here = same_name (record { job = r + 1; k = k }) x.context is in
        among_roots (record { job = r + 1; k = k }) ∙ ap (λ b. b || is_among (homes_of s.workers) (record { job = r + 1; k = k })) (ap (is_among (contexts_of threads)) here ∙ at_thread threads t x found))

    pub no_root : (r k : ℕ) → Nobody threads r → is_among (roots threads (Some s)) (record { job = r + 1; k = k }) ≡ false
    no_root r k nobody =
        none_by _ (λ among. let at = root_of r k among in let own = owner r k at.0 at.1 at.2 at.3 in nobody at.0 at.1 at.2 own.0 own.1)
