-- What each step leaves, before and after what is not reached is dropped.
use Rattle.std.proofs.Common.{◌≡◌, ◌⊎◌, inl, inr, ℕ, zero, suc, ◌+◌, ◌-◌, ◌*◌, ◌≤◌, ◌<◌, refl, sym, ap, subst, ◌∙◌, true, ◌||◌, Option, Some, List, [], ◌∷◌, ◌++◌, length, get_or, arith}
use Rattle.std.specs.List.{Contains, range_with_len}
use Rattle.std.specs.Ordering.{eq_by_cmp}
use Rattle.std.specs.Prelude.{All, map, slice_get, slice_set}
use Rattle.std.proofs.Math.Nat.{suc-mul}
use Rattle.std.proofs.lemmas.List.Elements.{All-set}
use Rattle.kernel_core.proofs.Beginnings.{adds, rises_begun, limits_begun, live, still_live, well_begun}
use Rattle.kernel_core.proofs.JobActs.{IsLocal}
use Rattle.kernel_core.proofs.Outcomes.{IsStep, still_ready}
use Rattle.kernel_core.proofs.Reaping.{limits_reaped}
use Rattle.kernel_core.proofs.Worlds.{RisesBy}
use Rattle.kernel_core.specs.Machine.{Machine, Serve, home_of, homes, homes_of, steps_after, steps_for_requests, steps_left}
use Rattle.kernel_core.specs.Ready.{HasItsJob, IsReady, IsReadyServe, IsReadyThread, IsRunnable, IsWithinLimits, IsWorker, WhileRunning, jobs_of}
use Rattle.kernel_core.specs.Start.{Inputs}
use Rattle.kernel_core.specs.Step.{AfterStep, Outcome, begin_next, contexts_of, finish, only, roots, unchanged, waiting, with_status}
use Rattle.kernel_core.specs.declared.thread.Thread.{Thread}
use Rattle.lwc_base.specs.Facts.{HasFewer}
use Rattle.lwc_base.specs.Holders.{InCell}
use Rattle.lwc_base.specs.Keys.{ValueOf}
use Rattle.lwc_base.specs.Sound.{IsSound}
use Rattle.lwc_base.specs.declared.cell.Cell.{Cell}
use Rattle.lwc_base.specs.declared.cell.Cell.TheVariants.{Common}
use Rattle.lwc_base.specs.Life.{is_among, reap}
use Rattle.lwc_base.specs.Jobs.{NamesKeepToJobs, own_names}
use Rattle.lwc_base.specs.World.{World, context, is_live}
use Rattle.lwc_types.specs.declared.key.Key.{Key}
use Rattle.lwc_types.specs.Names.{name_cmp}
use Rattle.lwc_types.specs.declared.fault.ThreadStatus.{ThreadStatus}
use Rattle.lwc_types.specs.declared.fault.ThreadStatus.TheVariants as status
use Rattle.lwc_types.specs.declared.name.Name.{Name}
use Rattle.lwc_syscall.specs.Changes.{IsWell}
use Rattle.snapshot_host.specs.Begin.{IsNewJob, begin}
use Rattle.lwc_base.proofs.Facts.{counts}
use Rattle.lwc_base.proofs.Jobs.{root_of_job}
use Rattle.lwc_base.proofs.Reaped.{reaped-reap, was_group-reap, way-of_kept}
use Rattle.lwc_base.proofs.Reaps.{keeps-reap}
use Rattle.lwc_base.proofs.Life.{or_cases, or_right}
use Rattle.lwc_types.proofs.Orders.{name-itself, same_name}

-- the steps of a thread, and those for requests that are not begun
abbrev pub steps_with : Option Serve → ℕ → Thread → ℕ
steps_with serve requests x = steps_left (steps_after serve) x.budget x.status + steps_for_requests serve requests

-- what a step leaves: the world is well and has grown little, its thread is ready in it and so is each other one, the homes are the same, and fewer steps are left
pub record IsAfter (m : Machine) (serve : Option Serve) (t : ℕ) (x : Thread) (after : AfterStep) : Type 0 where
  pub well : IsWell after.environment.world after.environment.channels
  pub given : (after.environment.channels.files ≡ m.environment.channels.files) × (after.environment.channels.requests ≡ m.environment.channels.requests)
  pub size : after.environment.world.size ≡ m.environment.world.size
  pub rises : (j : ℕ) → RisesBy 2 (m.environment.world.next j) (after.environment.world.next j)
  pub ready : IsReadyThread after.environment.world after.thread
  pub others : (y : Thread) → IsReadyThread m.environment.world y → IsReadyThread after.environment.world y
  pub stay : (c : Name) → is_live m.environment.world c ≡ true → is_live after.environment.world c ≡ true
  pub homes : homes after.serve ≡ homes serve
  pub more : steps_after after.serve ≡ steps_after serve
  pub limits : IsWithinLimits (reap after.environment.world (roots (slice_set m.threads t after.thread) after.serve)) (jobs_of (slice_set m.threads t after.thread))
  pub fewer : steps_with after.serve (length after.environment.channels.requests) after.thread < steps_with serve (length m.environment.channels.requests) x

-- the job of a thread is one of the threads' jobs
pub known_job : (threads : List Thread) (t : ℕ) (x : Thread) → slice_get threads t ≡ Some x → Contains (jobs_of threads) x.job
known_job [] t x found = cc
known_job (y ∷ ys) zero x found = let same : y ≡ x = cc in (zero, omega arith, ap (λ (z : Thread). z.job) same)
known_job (y ∷ ys) (suc t) x found = let rest = known_job ys t x found in (suc rest.0, omega (arith, rest.1), rest.2)

-- a thread of the same job leaves the jobs
pub same_jobs : (threads : List Thread) (t : ℕ) (x y : Thread) → slice_get threads t ≡ Some x → y.job ≡ x.job → jobs_of (slice_set threads t y) ≡ jobs_of threads
same_jobs [] t x y found is = cc
same_jobs (z ∷ zs) zero x y found is = let same : z ≡ x = cc in ap (λ j. j ∷ jobs_of zs) (is ∙ ap (λ (u : Thread). u.job) (sym same))
same_jobs (z ∷ zs) (suc t) x y found is = ap (λ l. z.job ∷ l) (same_jobs zs t x y found is)

-- a thread of another job has that one
job_set : (threads : List Thread) (t : ℕ) (x y : Thread) → slice_get threads t ≡ Some x → Contains (jobs_of (slice_set threads t y)) y.job
job_set [] t x y found = cc
job_set (z ∷ zs) zero x y found = (zero, omega arith, refl)
job_set (z ∷ zs) (suc t) x y found = let rest = job_set zs t x y found in (suc rest.0, omega (arith, rest.1), rest.2)

-- and the others have theirs
other_jobs : (threads : List Thread) (t : ℕ) (x y : Thread) → slice_get threads t ≡ Some x → x.job ≡ 0 → (j : ℕ) → Contains (jobs_of threads) j → 1 ≤ j → Contains (jobs_of (slice_set threads t y)) j
other_jobs [] t x y found none j there some = cc
other_jobs (z ∷ zs) zero x y found none j (zero, within, is) some = let same : z ≡ x = cc in absurd (omega (arith, ap (λ (u : Thread). u.job) same, none, is, some))
other_jobs (z ∷ zs) zero x y found none j (suc k, within, is) some = (suc k, within, is)
other_jobs (z ∷ zs) (suc t) x y found none j (zero, within, is) some = (zero, omega arith, is)
other_jobs (z ∷ zs) (suc t) x y found none j (suc k, within, is) some =
    let rest = other_jobs zs t x y found none j (k, omega (arith, within), is) some in (suc rest.0, omega (arith, rest.1), rest.2)

among_parts : (xs ys : List Name) (c : Name) → is_among (xs ++ ys) c ≡ true → (is_among xs c ≡ true) ⊎ (is_among ys c ≡ true)
among_parts [] ys c among = inr among
among_parts (d ∷ xs) ys c among =
    elim (or_cases (eq_by_cmp name_cmp c d) (is_among (xs ++ ys) c) among) [
      | inl here ↦ inl (ap (λ b. b || is_among xs c) here)
      | inr later ↦ elim (among_parts xs ys c later) [
        | inl front ↦ inl (or_right (eq_by_cmp name_cmp c d) _ front)
        | inr back ↦ inr back
      ]
    ]

-- a home bears job 0
pub home_job : (from count : ℕ) (c : Name) → is_among (map home_of (range_with_len from count)) c ≡ true → c.job ≡ 0
home_job from zero c among = cc
home_job from (suc count) c among =
    elim (or_cases (eq_by_cmp name_cmp c (home_of from)) (is_among (map home_of (range_with_len (from + 1) count)) c) among) [
      | inl here ↦ ap (λ (n : Name). n.job) (same_name c (home_of from) here)
      | inr later ↦ home_job (from + 1) count c later
    ]

-- a context of a worker bears its job
worker_job : (s : Serve) (threads : List Thread) (c : Name) → All (IsWorker s) threads → is_among (contexts_of threads) c ≡ true → Contains (jobs_of threads) c.job
worker_job s [] c all among = cc
worker_job s (x ∷ xs) c all among =
    elim (or_cases (eq_by_cmp name_cmp c x.context) (is_among (contexts_of xs) c) among) [
      | inl here ↦ (zero, omega arith, sym (all 0 x (omega arith)).here ∙ sym (ap (λ (n : Name). n.job) (same_name c x.context here)))
      | inr later ↦ let rest = worker_job s xs c (λ k d within. all (suc k) d (omega (arith, within))) later in (suc rest.0, omega (arith, rest.1), rest.2)
    ]

-- the homes are among the roots
home_among : (from count t : ℕ) → t < count → is_among (map home_of (range_with_len from count)) (home_of (from + t)) ≡ true
home_among from zero t within = absurd (omega arith)
home_among from (suc count) zero within =
    let same : from + 0 ≡ from = omega arith in
    ap (λ b. b || is_among (map home_of (range_with_len (from + 1) count)) (home_of (from + 0)))
    (ap (λ n. eq_by_cmp name_cmp (home_of n) (home_of from)) same ∙ name-itself (home_of from))
home_among from (suc count) (suc t) within =
    let next : from + 1 + t ≡ from + suc t = omega arith in
    or_right (eq_by_cmp name_cmp (home_of (from + suc t)) (home_of from)) _
    (subst (λ (n : ℕ). is_among (map home_of (range_with_len (from + 1) count)) (home_of n) ≡ true) next (home_among (from + 1) count t (omega (arith, within))))

pub home_there : (count t : ℕ) → t < count → is_among (homes_of count) (home_of t) ≡ true
home_there count t within =
    let same : 0 + t ≡ t = omega arith in subst (λ (n : ℕ). is_among (homes_of count) (home_of n) ≡ true) same (home_among 0 count t within)

module _ (s : Serve) (v : World) (now : List Thread) (workers : All (IsWorker s) now) (names : NamesKeepToJobs v) (sound : IsSound v) (jobs : List ℕ) (limits : IsWithinLimits v jobs) where
  abbrev pub left : List Name
  left = roots now (Some s)

  -- a context that is left bears job 0 or a thread's job
  bears : (c : Name) → is_live (reap v left) c ≡ true → Contains (0 ∷ jobs_of now) c.job
  bears c live =
      let root = root_of_job v left c names (way-of_kept v left c live) in
      elim (among_parts (contexts_of now) (homes (Some s)) root.0 root.1) [
        | inl front ↦ let there = worker_job s now root.0 workers front in (suc there.0, omega (arith, there.1), subst (λ (j : ℕ). get_or (jobs_of now) there.0 j ≡ j) root.2 there.2)
        | inr back ↦ (zero, omega arith, sym (home_job 0 s.workers root.0 back) ∙ root.2)
      ]

  of_thread : (j : ℕ) → Contains (0 ∷ jobs_of now) j → 1 ≤ j → Contains (jobs_of now) j
  of_thread j (zero, within, is) some = absurd (omega (arith, is, some))
  of_thread j (suc k, within, is) some = (k, omega (arith, within), is)

  -- and a group the job of such a context
  same_job : (c : Name) (k : Key) (cell : Cell (ValueOf k)) (g : Name) → cell ≡ Common g → InCell own_names c.job k cell → g.job ≡ c.job
  same_job c k cell g is kept = subst (InCell own_names c.job k) is kept

  -- where names keep to their jobs, what is left is within the limits of the jobs that are left
  pub limits_by_roots : IsWithinLimits (reap v left) (jobs_of now)
  limits_by_roots =
      let fewer : HasFewer v (reap v left) = counts.reaped v left in
      let kept : NamesKeepToJobs (reap v left) = keeps-reap v left own_names names in
      record {
        contexts = bears;
        groups = λ g live.
            let named = (reaped-reap v left).groups g live in
            let some = (limits.groups g (was_group-reap v left g live)).1 in
            let same : g.job ≡ named.0.job = same_job named.0 named.1 _ g named.4 (kept.contexts named.0 named.3 named.1) in
            (of_thread g.job (subst (Contains (0 ∷ jobs_of now)) (sym same) (bears named.0 named.3)) some, some);
        homes = omega (arith, fewer.live_of 0, limits.homes);
        few_contexts = λ job. omega (arith, fewer.live_of job, limits.few_contexts job);
        few_groups = λ job. omega (arith, fewer.groups_of job, limits.few_groups job);
      }

module _ (inputs : Inputs) (steps t : ℕ) (m : Machine) (x : Thread) (ready : IsReady inputs steps m) (found : slice_get m.threads t ≡ Some x) (here : IsReadyThread m.environment.world x) where
  well : IsWell m.environment.world m.environment.channels
  well = record { sound = ready.sound; named = ready.named; files = ready.files }

  -- a running thread goes on, or has ended outside a serve
  pub running_on : (serve : Option Serve) (outcome : Outcome) → x.status ≡ status.Running → IsStep m.environment x outcome → IsAfter m serve t x (only serve outcome)
  running_on serve outcome running made =
      let v = outcome.environment.world in
      let threads : List Thread = slice_set m.threads t outcome.thread in
      let had : steps_left (steps_after serve) x.budget x.status ≡ x.budget + steps_after serve = ap (steps_left (steps_after serve) x.budget) running in
      record {
        well = made.changes.well;
        given = made.changes.inputs;
        size = made.changes.grows.size;
        rises = made.changes.grows.counts;
        ready = made.ready;
        others = still_ready x.job 2 m.environment.world v made.changes.grows;
        stay = made.changes.grows.live;
        homes = refl;
        more = refl;
        limits = limits_reaped v (roots threads serve) (jobs_of threads) (subst (λ (jobs : List ℕ). IsWithinLimits v jobs) (sym (same_jobs m.threads t x outcome.thread found made.job))
            (made.limits (jobs_of m.threads) (known_job m.threads t x found) ready.limits));
        fewer = omega (arith, made.fewer (steps_after serve), had, ap (λ (l : List (List ℕ)). steps_for_requests serve (length l)) made.changes.inputs.1);
      }

  -- an idle thread ends
  pub idle_ends : (serve : Option Serve) → x.status ≡ status.Idle → IsAfter m serve t x (only serve (unchanged m.environment (with_status x (status.Done 0))))
  idle_ends serve idle =
      let threads : List Thread = slice_set m.threads t (with_status x (status.Done 0)) in
      let had : steps_left (steps_after serve) x.budget x.status ≡ 1 = ap (steps_left (steps_after serve) x.budget) idle in
      record {
        well = well;
        given = (refl, refl);
        size = refl;
        rises = λ j. record { contexts = omega arith; groups = omega arith; tags = omega arith };
        ready = record { live = here.live; budget = here.budget; runs = tt };
        others = λ y is. is;
        stay = λ c live. live;
        homes = refl;
        more = refl;
        limits = limits_reaped m.environment.world (roots threads serve) (jobs_of threads) (subst (λ (jobs : List ℕ). IsWithinLimits m.environment.world jobs) (sym (same_jobs m.threads t x (with_status x (status.Done 0)) found refl)) ready.limits);
        fewer = omega (arith, had);
      }

  module _ (s : Serve) (serves : IsReadyServe inputs m s) (within : t < s.workers) (worker : IsWorker s x) where
    -- a request is finished
    pub finishes_request : (outcome : Outcome) → x.status ≡ status.Running → IsRunnable m.environment.world x → IsStep m.environment x outcome → IsLocal m.environment x outcome → IsAfter m (Some s) t x (finish t s outcome)
    finishes_request outcome running runs made local =
        let v = outcome.environment.world in
        let y = waiting (home_of t) (context v (home_of t)).entry in
        let threads : List Thread = slice_set m.threads t y in
        let had : steps_left 1 x.budget x.status ≡ x.budget + 1 = ap (steps_left 1 x.budget) running in
        let limits : IsWithinLimits v (jobs_of m.threads) = made.limits (jobs_of m.threads) (known_job m.threads t x found) ready.limits in
        record {
          well = made.changes.well;
          given = made.changes.inputs;
          size = made.changes.grows.size;
          rises = made.changes.grows.counts;
          ready = record { live = made.changes.grows.live (home_of t) (serves.live t within); budget = omega arith; runs = tt };
          others = still_ready x.job 2 m.environment.world v made.changes.grows;
          stay = made.changes.grows.live;
          homes = refl;
          more = refl;
          limits = limits_by_roots s v threads (All-set (IsWorker s) m.threads t y (record { here = refl; job = refl }) serves.threads) local.stays.kept made.changes.well.sound (jobs_of m.threads) limits;
          fewer = omega (arith, had, runs.some_step, ap (λ (l : List (List ℕ)). steps_for_requests (Some s) (length l)) made.changes.inputs.1);
        }

    -- the next request is begun
    pub begins_request : x.status ≡ status.Idle → s.next < length m.environment.channels.requests → IsAfter m (Some s) t x (begin_next t s m.environment)
    begins_request idle some =
        let w = m.environment.world in
        let r = s.next in
        let v : World = begin w (home_of t) r in
        let after = begin_next t s m.environment in
        let threads : List Thread = slice_set m.threads t after.thread in
        let none : x.job ≡ 0 = subst (λ (st : ThreadStatus). HasItsJob s st x.job) idle worker.job in
        let new : IsNewJob w (r + 1) = serves.new_jobs r (omega arith) in
        let count = length m.environment.channels.requests in
        let one_fewer : count - r ≡ suc (count - (r + 1)) = omega (arith, some) in
        let all : (count - r) * (s.budget + 1) ≡ (count - (r + 1)) * (s.budget + 1) + (s.budget + 1) = ap (λ n. n * (s.budget + 1)) one_fewer ∙ suc-mul (count - (r + 1)) (s.budget + 1) in
        let had : steps_left 1 x.budget x.status ≡ 1 = ap (steps_left 1 x.budget) idle in
        let size : v.size ≡ w.size = (adds w (home_of t) r).size in
        let known : r + 1 < v.size.jobs = omega (arith, some, ap (λ (l : List (List ℕ)). length l) ready.given_requests, ready.few_requests, ap (λ z. z.jobs) size, ap (λ z. z.jobs) ready.size) in
        record {
          well = well_begun w (home_of t) r new m.environment.channels (serves.live t within) some well;
          given = (refl, refl);
          size = size;
          rises = rises_begun w (home_of t) r;
          ready = record {
            live = live w (home_of t) r new;
            budget = serves.budget.1;
            runs = record { some_job = omega arith; known_job = known; some_step = serves.budget.0 };
          };
          others = λ y is. record {
            live = still_live w (home_of t) r y.context is.live;
            budget = is.budget;
            runs = still_runs y y.status size is.runs;
          };
          stay = still_live w (home_of t) r;
          homes = refl;
          more = refl;
          limits = limits_reaped v (roots threads after.serve) (jobs_of threads) (limits_begun w (home_of t) r new (jobs_of m.threads) (jobs_of threads) ready.sound.fresh
              (job_set m.threads t x after.thread found) (other_jobs m.threads t x after.thread found none) ready.limits);
          fewer = omega (arith, had, all);
        }
      where
        still_runs : (y : Thread) (st : ThreadStatus) → (begin m.environment.world (home_of t) s.next).size ≡ m.environment.world.size → WhileRunning st (IsRunnable m.environment.world y) → WhileRunning st (IsRunnable (begin m.environment.world (home_of t) s.next) y)
        still_runs y status.Running size runs = record { some_job = runs.some_job; known_job = omega (arith, ap (λ z. z.jobs) size, runs.known_job); some_step = runs.some_step }
        still_runs y status.Idle size runs = tt
        still_runs y (status.Done code) size runs = tt
        still_runs y (status.Faulted f) size runs = tt
