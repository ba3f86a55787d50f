-- A machine that is ready stays so over each step.
use Rattle.std.proofs.Common.{◌≡◌, ℕ, zero, suc, ◌+◌, ◌^◌, ◌≤◌, ◌<◌, refl, sym, ap, subst, ◌∙◌, Bool, true, false, cond, ltb, Option, Some, None, List, [], ◌∷◌, length, get_or, arith}
use Rattle.std.specs.List.{range_with_len, sum_by}
use Rattle.std.specs.Prelude.{All, IfSome, map, slice_get, slice_set}
use Rattle.std.proofs.lemmas.Bool.Decides.{nat_tests}
use Rattle.std.proofs.lemmas.List.{length-map, length-set}
use Rattle.std.proofs.lemmas.List.Elements.{All-append, All-cons, All-get_or, All-nil, All-set, All-weaker}
use Rattle.std.proofs.lemmas.List.Sums.{sum_by-set}
use Rattle.std.proofs.lemmas.Option.{slice_get_within, get_or_from_slice_get}
use Rattle.std.proofs.Math.ListN.{set}
use Rattle.guest_machine.specs.Advances.{advanced}
use Rattle.kernel_core.proofs.Afters.{IsAfter, begins_request, finishes_request, home_there, idle_ends, known_job, running_on}
use Rattle.kernel_core.proofs.Beginnings.{still_live}
use Rattle.kernel_core.proofs.Homes.{few_home_ranges, no_names}
use Rattle.kernel_core.proofs.JobActs.{AllLocal, IsLocal, guest_calls_are_local, local_step}
use Rattle.kernel_core.proofs.JobStays.{stays_begun}
use Rattle.kernel_core.proofs.Limits.{has_place, has_places}
use Rattle.kernel_core.proofs.Outcomes.{AllAct, IsStep, guest_calls_act, step_running}
use Rattle.kernel_core.proofs.Reaping.{among_back, each_root, live_roots, root_kept}
use Rattle.kernel_core.proofs.Worlds.{RisesBy, StaysInJob}
use Rattle.kernel_core.specs.Machine.{Machine, Serve, has_ended, home_of, homes, steps_after, steps_for_requests, steps_left, work}
use Rattle.kernel_core.specs.Ready.{CanAct, CanServe, HasItsJob, IsCounted, IsReady, IsReadyServe, IsReadyThread, IsRunnable, IsWorker, WhileRunning, jobs_of, most_counted}
use Rattle.kernel_core.specs.Runs.{run}
use Rattle.kernel_core.specs.Start.{Inputs}
use Rattle.kernel_core.specs.Step.{AfterStep, Calls, Outcome, advance_outcome, after_outcome, after_thread, begin_next, contexts_of, finish, finished_by, guest_calls, only, roots, step, step_by, thread_outcome, unchanged, with_reply, with_status}
use Rattle.kernel_core.specs.declared.thread.Thread.{Thread}
use Rattle.lwc_base.specs.Life.{is_among, reap}
use Rattle.lwc_base.specs.Jobs.{NamesKeepToJobs, own_names}
use Rattle.lwc_base.specs.World.{World, context, is_live}
use Rattle.lwc_types.specs.declared.fault.ThreadStatus.{ThreadStatus}
use Rattle.lwc_types.specs.declared.counters.Counters.{Counters}
use Rattle.lwc_types.specs.declared.fault.ThreadStatus.TheVariants.{Idle, Running, Done, Faulted}
use Rattle.lwc_types.specs.declared.limits.TheConstants.{MOST_STEPS}
use Rattle.lwc_types.specs.declared.name.Name.{Name}
use Rattle.lwc_syscall.specs.Changes.{IsWell}
use Rattle.snapshot_host.specs.Begin.{begin}
use Rattle.lwc_base.proofs.InRange.{files-reap}
use Rattle.lwc_base.proofs.NamedContexts.{contexts-reap}
use Rattle.lwc_base.proofs.Reaped.{context-kept, reap-stays, reaped-reap}
use Rattle.lwc_base.proofs.Reaps.{keeps-reap}
use Rattle.lwc_base.proofs.Sound.{sound-reap}

-- the thread of a number is ready
pub ready_thread : (inputs : Inputs) (steps t : ℕ) (m : Machine) (x : Thread) → IsReady inputs steps m → slice_get m.threads t ≡ Some x → IsReadyThread m.environment.world x
ready_thread inputs steps t m x ready found =
    subst (λ (y : Thread). IsReadyThread m.environment.world y) (get_or_from_slice_get m.threads t x x found)
    (All-get_or (IsReadyThread m.environment.world) m.threads t x (slice_get_within m.threads t x found) ready.threads)

-- a ready machine's world is well
pub well_ready : (inputs : Inputs) (steps : ℕ) (m : Machine) → IsReady inputs steps m → IsWell m.environment.world m.environment.channels
well_ready inputs steps m ready = record { sound = ready.sound; named = ready.named; files = ready.files }

counts_more : (most more : ℕ) (n after : Counters) → IsCounted most n → RisesBy more n after → IsCounted (most + more) after
counts_more most more n after counts rises = record {
  contexts = omega (arith, counts.contexts, rises.contexts);
  groups = omega (arith, counts.groups, rises.groups);
  tags = omega (arith, counts.tags, rises.tags);
}

counts_later : (most later : ℕ) (n : Counters) → most ≤ later → IsCounted most n → IsCounted later n
counts_later most later n more counts = record { contexts = omega (arith, counts.contexts); groups = omega (arith, counts.groups); tags = omega (arith, counts.tags) }

-- a machine that is ready after some steps is so after more
pub ready_later : (inputs : Inputs) (steps later : ℕ) (m : Machine) → steps ≤ later → IsReady inputs steps m → IsReady inputs later m
ready_later inputs steps later m more ready = record {
  image = ready.image;
  size = ready.size;
  sound = ready.sound;
  named = ready.named;
  files = ready.files;
  given_files = ready.given_files;
  given_requests = ready.given_requests;
  few_requests = ready.few_requests;
  reaped = ready.reaped;
  limits = ready.limits;
  counted = λ job. counts_later (most_counted steps) (most_counted later) _ (omega arith) (ready.counted job);
  threads = ready.threads;
  count = ready.count;
  some = ready.some;
  few = ready.few;
  text = ready.text;
  serve = ready.serve;
}

-- what is there
pub some_of : (T : Type 0) (P : T → Type 0) (o : Option T) (v : T) → o ≡ Some v → IfSome o P → P v
some_of T P o v is all = subst (λ (q : Option T). IfSome q P) is all

below_by : (a b : ℕ) → ltb a b ≡ true → a < b
below_by a b is = grind (arith, nat_tests)

-- a fact of each home
pub all_homes : (P : Name → Type 0) (from count : ℕ) → ((t : ℕ) → t < count → P (home_of (from + t))) → All P (map home_of (range_with_len from count))
all_homes P from zero each = All-nil P
all_homes P from (suc count) each =
    let first : from + 0 ≡ from = omega arith in
    All-cons P (home_of from) (map home_of (range_with_len (from + 1) count)) (subst (λ (n : ℕ). P (home_of n)) first (each 0 (omega arith)))
    (all_homes P (from + 1) count (λ t within. let next : from + suc t ≡ from + 1 + t = omega arith in subst (λ (n : ℕ). P (home_of n)) next (each (suc t) (omega (arith, within)))))

-- each home of a ready serve lives
homes_live : (inputs : Inputs) (m : Machine) (serve : Option Serve) → IfSome serve (IsReadyServe inputs m) → All (λ c. is_live m.environment.world c ≡ true) (homes serve)
homes_live inputs m None serves = All-nil _
homes_live inputs m (Some s) serves = all_homes (λ c. is_live m.environment.world c ≡ true) 0 s.workers (λ t within. let same : t ≡ 0 + t = omega arith in subst (λ (k : ℕ). is_live m.environment.world (home_of k) ≡ true) same (serves.live t within))

-- the steps of threads, where one of them has changed
work_after : (left : Thread → ℕ) (threads : List Thread) (t : ℕ) (x after : Thread) (a b : ℕ) → slice_get threads t ≡ Some x → left after + a < left x + b →
    sum_by left (slice_set threads t after) + a < sum_by left threads + b
work_after left threads t x after a b found less =
    let within : t < length threads = slice_get_within threads t x found in
    let had : left (get_or threads t x) ≡ left x = ap left (get_or_from_slice_get threads t x x found) in
    let moved : sum_by left (set threads t after) + left (get_or threads t x) ≡ sum_by left threads + left after = sum_by-set left threads t after x within in
    omega (arith, had, moved, less)

pub while_running : (P Q : Type 0) (status : ThreadStatus) → (P → Q) → WhileRunning status P → WhileRunning status Q
while_running P Q Running then is = then is
while_running P Q Idle then is = tt
while_running P Q (Done code) then is = tt
while_running P Q (Faulted f) then is = tt

can_act : (inputs : Inputs) (steps t : ℕ) (m : Machine) (x : Thread) → IsReady inputs steps m → steps ≤ MOST_STEPS → slice_get m.threads t ≡ Some x →
    IsRunnable m.environment.world x → CanAct m.environment.world x
can_act inputs steps t m x ready short found runs =
    let counted = ready.counted x.job in
    let few : most_counted steps < 2 ^ 31 = omega arith in
    let jobs : length (jobs_of m.threads) ≤ 16 = omega (arith, length-map m.threads (λ (y : Thread). y.job), ready.few) in
    record {
      sound = ready.sound;
      named = ready.named;
      live = (ready_thread inputs steps t m x ready found).live;
      may = record {
        known = runs.known_job;
        contexts = omega (arith, counted.contexts, few);
        groups = omega (arith, counted.groups, few);
        tags = omega (arith, counted.tags, few);
      };
      places = has_places inputs.image.form inputs.settings.frames x.job m.environment.world (jobs_of m.threads) ready.size ready.limits jobs (known_job m.threads t x found);
    }

-- a ready thread can act while it runs
pub running_acts : (inputs : Inputs) (steps t : ℕ) (m : Machine) (x : Thread) → IsReady inputs steps m → steps ≤ MOST_STEPS → slice_get m.threads t ≡ Some x →
    WhileRunning x.status (CanAct m.environment.world x)
running_acts inputs steps t m x ready short found =
    while_running (IsRunnable m.environment.world x) (CanAct m.environment.world x) x.status (can_act inputs steps t m x ready short found)
    (ready_thread inputs steps t m x ready found).runs

-- a ready serve can begin its next request
pub can_serve : (inputs : Inputs) (steps : ℕ) (m : Machine) → IsReady inputs steps m → IfSome m.serve (CanServe m.environment.world m.environment.channels)
can_serve inputs steps m ready = by_serve m.serve ready.serve
  where
    by_serve : (serve : Option Serve) → IfSome serve (IsReadyServe inputs m) → IfSome serve (CanServe m.environment.world m.environment.channels)
    by_serve None serves = tt
    by_serve (Some s) serves =
        let requests : length m.environment.channels.requests ≡ length inputs.requests = ap (λ (l : List (List ℕ)). length l) ready.given_requests in
        let jobs : length (jobs_of m.threads) ≤ 16 = omega (arith, length-map m.threads (λ (y : Thread). y.job), ready.few) in
        record {
          workers = serves.workers;
          homes = λ t within. (serves.live t within, few_home_ranges inputs m.environment.world (home_of t) ready.image ready.size (serves.homes t within));
          groups = ready.sound.groups;
          place = has_place inputs.image.form inputs.settings.frames m.environment.world (jobs_of m.threads) ready.size ready.limits jobs;
          known = omega (arith, requests, ready.few_requests, ap (λ z. z.jobs) ready.size);
          next = omega (arith, requests, serves.next);
          new_jobs = serves.new_jobs;
          replies = serves.replies ∙ sym requests;
          budget = serves.budget.1;
        }

-- a thread whose context is a root is ready in the reaped world
kept_ready : (w : World) (names : List Name) (x : Thread) → is_among names x.context ≡ true → IsReadyThread w x → IsReadyThread (reap w names) x
kept_ready w names x among ready =
    let size = (reap-stays w names).0 in
    record {
      live = root_kept w names x.context ready.live among;
      budget = ready.budget;
      runs = while_running (IsRunnable w x) (IsRunnable (reap w names) x) x.status
          (λ runs. record { some_job = runs.some_job; known_job = omega (arith, ap (λ s. s.jobs) size, runs.known_job); some_step = runs.some_step }) ready.runs;
    }

-- a fact of whatever is there
pub whatever : {T : Type 0} (o : Option T) (P : Type 0) → P → IfSome o (λ v. P)
whatever None P is = tt
whatever (Some v) P is = is

module _ (calls : Calls) (act : AllAct calls) (inputs : Inputs) (steps t : ℕ) (m : Machine) (x : Thread) (ready : IsReady inputs steps m) (local : IfSome m.serve (λ s. AllLocal calls))
    (found : slice_get m.threads t ≡ Some x) where
  here : IsReadyThread m.environment.world x
  here = ready_thread inputs steps t m x ready found

  within_threads : t < length m.threads
  within_threads = slice_get_within m.threads t x found

  advanced_outcome : Outcome
  advanced_outcome = advance_outcome calls t m.environment x (advanced m.text x.regs)

  module _ (s : Serve) (serves : IsReadyServe inputs m s) (stays_local : AllLocal calls) where
    worker : IsWorker s x
    worker =
        subst (λ (y : Thread). IsWorker s y) (get_or_from_slice_get m.threads t x x found) (All-get_or (IsWorker s) m.threads t x within_threads serves.threads)

    within_workers : t < s.workers
    within_workers = omega (arith, within_threads, serves.count)

    -- a serve is ready after a step that leaves the homes, and the counters of jobs that are not begun
    serve_after : (after : AfterStep) (now : Serve) → after.serve ≡ Some now → now.workers ≡ s.workers → now.budget ≡ s.budget → now.next ≤ length inputs.requests → length now.replies ≡ length s.replies → s.next ≤ now.next →
        NamesKeepToJobs after.environment.world → ((c : Name) → is_live m.environment.world c ≡ true → is_live after.environment.world c ≡ true) →
        ((k : ℕ) → context after.environment.world (home_of k) ≡ context m.environment.world (home_of k)) → ((r : ℕ) → now.next ≤ r → after.environment.world.next (r + 1) ≡ m.environment.world.next (r + 1)) →
        All (IsWorker now) (slice_set m.threads t after.thread) → IsReadyServe inputs (after_outcome m t (Some after)) now
    serve_after after now is workers budget next replies later names stay contexts counters threads =
        let v = after.environment.world in
        let names_left : List Name = roots (slice_set m.threads t after.thread) after.serve in
        let lives : (k : ℕ) → k < now.workers → is_live (reap v names_left) (home_of k) ≡ true = λ k few.
        root_kept v names_left (home_of k) (stay (home_of k) (serves.live k (omega (arith, few, workers))))
        (among_back (contexts_of (slice_set m.threads t after.thread)) (homes after.serve) (home_of k) (subst (λ (o : Option Serve). is_among (homes o) (home_of k) ≡ true) (sym is) (home_there now.workers k few))) in
        record {
          workers = omega (arith, workers, serves.workers);
          count = length-set m.threads t after.thread ∙ serves.count ∙ sym workers;
          budget = (omega (arith, budget, serves.budget.0), omega (arith, budget, serves.budget.1));
          next = next;
          replies = replies ∙ serves.replies;
          live = lives;
          homes = λ k few. context-kept v names_left (home_of k) (lives k few) ∙ contexts k ∙ serves.homes k (omega (arith, few, workers));
          names = keeps-reap v names_left own_names names;
          new_jobs = λ r more. ap (λ (next : ℕ → Counters). next (r + 1)) (reap-stays v names_left).1 ∙ counters r more ∙ serves.new_jobs r (omega (arith, more, later));
          threads = threads;
        }

    -- the workers after a step
    workers_after : (now : Serve) (y : Thread) → s.next ≤ now.next → IsWorker now y → All (IsWorker now) (slice_set m.threads t y)
    workers_after now y later is =
        All-set (IsWorker now) m.threads t y is (All-weaker (IsWorker s) (IsWorker now) (λ z has. record { here = has.here; job = still_begun z.status z.job has.job }) m.threads serves.threads)
      where
        still_begun : (st : ThreadStatus) (job : ℕ) → HasItsJob s st job → HasItsJob now st job
        still_begun Running job has = (has.0, omega (arith, has.1, later))
        still_begun Idle job has = has
        still_begun (Done code) job has = has
        still_begun (Faulted f) job has = has

    job_0_stays : (job : ℕ) (v : World) → 1 ≤ job → StaysInJob job m.environment.world v → (k : ℕ) → context v (home_of k) ≡ context m.environment.world (home_of k)
    job_0_stays job v some stays k = stays.contexts (home_of k) (λ same. absurd (omega (arith, same, some)))

    later_stays : (job next : ℕ) (v : World) → job ≤ next → StaysInJob job m.environment.world v → (r : ℕ) → next ≤ r → v.next (r + 1) ≡ m.environment.world.next (r + 1)
    later_stays job next v few stays r more = stays.next (r + 1) (λ same. absurd (omega (arith, same, few, more)))

    local_here : IsLocal m.environment x advanced_outcome
    unfolding advanced_outcome
    local_here = local_step calls stays_local t m.environment x (advanced m.text x.regs) serves.names (well_ready inputs steps m ready) here.live worker.here

    made_here : x.status ≡ Running → IsStep m.environment x advanced_outcome
    unfolding advanced_outcome
    made_here running = step_running calls act t m.environment x (advanced m.text x.regs) (well_ready inputs steps m ready) running here

    runs_here : x.status ≡ Running → IsRunnable m.environment.world x
    runs_here running = subst (λ (st : ThreadStatus). WhileRunning st (IsRunnable m.environment.world x)) running here.runs

    has_job : x.status ≡ Running → (1 ≤ x.job) × (x.job ≤ s.next)
    has_job running = subst (λ (st : ThreadStatus). HasItsJob s st x.job) running worker.job

    -- the worker after a step of its request
    settled_worker : (b : Bool) → has_ended advanced_outcome.thread.status ≡ b → x.status ≡ Running → (after : AfterStep) → cond b (finish t s advanced_outcome) (only (Some s) advanced_outcome) ≡ after →
        IsAfter m (Some s) t x after × IfSome after.serve (IsReadyServe inputs (after_outcome m t (Some after)))
    settled_worker true ended running after is =
        let y = finish t s advanced_outcome in
        let made = made_here running in
        let job = has_job running in
        subst (λ (z : AfterStep). IsAfter m (Some s) t x z × IfSome z.serve (IsReadyServe inputs (after_outcome m t (Some z)))) is (
          finishes_request inputs steps t m x ready found here s serves within_workers worker advanced_outcome running (runs_here running) made local_here,
          serve_after y (with_reply s (finished_by advanced_outcome.thread advanced_outcome.environment.channels)) refl refl refl serves.next (length-set s.replies (finished_by advanced_outcome.thread advanced_outcome.environment.channels).request (Some (finished_by advanced_outcome.thread advanced_outcome.environment.channels))) (omega arith) local_here.stays.kept made.changes.grows.live
              (job_0_stays x.job y.environment.world job.0 local_here.stays) (later_stays x.job s.next y.environment.world job.1 local_here.stays)
              (workers_after (with_reply s (finished_by advanced_outcome.thread advanced_outcome.environment.channels)) y.thread (omega arith) (record { here = refl; job = refl })),
        )
    settled_worker false going running after is =
        let y = only (Some s) advanced_outcome in
        let made = made_here running in
        let job = has_job running in
        subst (λ (z : AfterStep). IsAfter m (Some s) t x z × IfSome z.serve (IsReadyServe inputs (after_outcome m t (Some z)))) is (
          running_on inputs steps t m x ready found here (Some s) advanced_outcome running made,
          serve_after y s refl refl refl serves.next refl (omega arith) local_here.stays.kept made.changes.grows.live
              (job_0_stays x.job y.environment.world job.0 local_here.stays) (later_stays x.job s.next y.environment.world job.1 local_here.stays)
              (workers_after s y.thread (omega arith) (record {
                here = local_here.here ∙ sym made.job;
                job = subst (λ (st : ThreadStatus). HasItsJob s st advanced_outcome.thread.job) (sym (made.going going)) (made.some, omega (arith, made.job, job.1));
              })),
        )

    -- and after a step in which it was idle
    woken_worker : (b : Bool) → ltb s.next (length m.environment.channels.requests) ≡ b → x.status ≡ Idle → (after : AfterStep) →
        cond b (begin_next t s m.environment) (only (Some s) (unchanged m.environment (with_status x (Done 0)))) ≡ after → IsAfter m (Some s) t x after × IfSome after.serve (IsReadyServe inputs (after_outcome m t (Some after)))
    woken_worker true some idle after is =
        let y = begin_next t s m.environment in
        let now : Serve = record s { next = s.next + 1 } in
        let below : s.next < length m.environment.channels.requests = below_by s.next (length m.environment.channels.requests) some in
        let stays : StaysInJob (s.next + 1) m.environment.world (begin m.environment.world (home_of t) s.next) =
        stays_begun m.environment.world (home_of t) s.next serves.names (no_names inputs m.environment.world (home_of t) (serves.homes t within_workers)) in
        subst (λ (z : AfterStep). IsAfter m (Some s) t x z × IfSome z.serve (IsReadyServe inputs (after_outcome m t (Some z)))) is (
          begins_request inputs steps t m x ready found here s serves within_workers worker idle below,
          serve_after y now refl refl refl (omega (arith, below, ap (λ (l : List (List ℕ)). length l) ready.given_requests)) refl (omega arith) stays.kept (still_live m.environment.world (home_of t) s.next)
              (job_0_stays (s.next + 1) y.environment.world (omega arith) stays) (later_stays (s.next + 1) (s.next + 1) y.environment.world (omega arith) stays)
              (workers_after now y.thread (omega arith) (record { here = refl; job = (omega arith, omega arith) })),
        )
    woken_worker false none idle after is =
        let y = only (Some s) (unchanged m.environment (with_status x (Done 0))) in
        subst (λ (z : AfterStep). IsAfter m (Some s) t x z × IfSome z.serve (IsReadyServe inputs (after_outcome m t (Some z)))) is (
          idle_ends inputs steps t m x ready found here (Some s) idle,
          serve_after y s refl refl refl serves.next refl (omega arith) serves.names (λ c live. live) (λ k. refl) (λ r more. refl)
              (workers_after s y.thread (omega arith) (record { here = worker.here; job = subst (λ (st : ThreadStatus). HasItsJob s st x.job) idle worker.job })),
        )

  -- what a step leaves, by its thread's status, in a serve and outside one
  after_by : (serve : Option Serve) (st : ThreadStatus) (after : AfterStep) → IfSome serve (IsReadyServe inputs m) → IfSome serve (λ s. AllLocal calls) → x.status ≡ st → thread_outcome calls t m.environment serve m.text x st ≡ Some after →
      IsAfter m serve t x after × IfSome after.serve (IsReadyServe inputs (after_outcome m t (Some after)))
  unfolding advanced_outcome
  after_by None Running after serves locals running made =
      let is : only None advanced_outcome ≡ after = cc in
      subst (λ (z : AfterStep). IsAfter m None t x z × IfSome z.serve (IsReadyServe inputs (after_outcome m t (Some z)))) is
      (running_on inputs steps t m x ready found here None advanced_outcome running (step_running calls act t m.environment x (advanced m.text x.regs) (well_ready inputs steps m ready) running here), tt)
  after_by None Idle after serves locals idle made =
      let is : only None (unchanged m.environment (with_status x (Done 0))) ≡ after = cc in
      subst (λ (z : AfterStep). IsAfter m None t x z × IfSome z.serve (IsReadyServe inputs (after_outcome m t (Some z)))) is
      (idle_ends inputs steps t m x ready found here None idle, tt)
  after_by (Some s) Running after serves locals running made =
      settled_worker s serves locals (has_ended advanced_outcome.thread.status) refl running after cc
  after_by (Some s) Idle after serves locals idle made =
      woken_worker s serves locals (ltb s.next (length m.environment.channels.requests)) refl idle after cc
  after_by serve (Done code) after serves locals ended made = cc
  after_by serve (Faulted f) after serves locals ended made = cc

  module _ (after : AfterStep) (made : thread_outcome calls t m.environment m.serve m.text x x.status ≡ Some after) where
    pub step_made : IsAfter m m.serve t x after × IfSome after.serve (IsReadyServe inputs (after_outcome m t (Some after)))
    step_made = after_by m.serve x.status after ready.serve local refl made

    -- fewer steps are left
    pub fewer_steps : work (after_outcome m t (Some after)) < work m
    unfolding work
    fewer_steps =
        let is = step_made.0 in
        subst (λ (n : ℕ). sum_by (λ (y : Thread). steps_left n y.budget y.status) (slice_set m.threads t after.thread) + steps_for_requests after.serve (length after.environment.channels.requests)
        < sum_by (λ (y : Thread). steps_left (steps_after m.serve) y.budget y.status) m.threads + steps_for_requests m.serve (length m.environment.channels.requests)) (sym is.more)
        (work_after (λ (y : Thread). steps_left (steps_after m.serve) y.budget y.status) m.threads t x after.thread (steps_for_requests after.serve (length after.environment.channels.requests))
        (steps_for_requests m.serve (length m.environment.channels.requests)) found
        (subst (λ (n : ℕ). steps_left n after.thread.budget after.thread.status + steps_for_requests after.serve (length after.environment.channels.requests)
        < steps_left (steps_after m.serve) x.budget x.status + steps_for_requests m.serve (length m.environment.channels.requests)) is.more is.fewer))

    -- the threads are ready in the world that a step leaves
    threads_after : All (IsReadyThread after.environment.world) (slice_set m.threads t after.thread)
    threads_after =
        All-set (IsReadyThread after.environment.world) m.threads t after.thread step_made.0.ready
        (All-weaker (IsReadyThread m.environment.world) (IsReadyThread after.environment.world) step_made.0.others m.threads ready.threads)

    -- and the roots live there
    pub live_after : All (λ c. is_live after.environment.world c ≡ true) (roots (slice_set m.threads t after.thread) after.serve)
    live_after =
        All-append (λ c. is_live after.environment.world c ≡ true) (contexts_of (slice_set m.threads t after.thread)) (homes after.serve)
        (live_roots after.environment.world (slice_set m.threads t after.thread)
        (All-weaker (IsReadyThread after.environment.world) (λ (y : Thread). is_live after.environment.world y.context ≡ true) (λ y is. is.live) (slice_set m.threads t after.thread) threads_after))
        (subst (All (λ c. is_live after.environment.world c ≡ true)) (sym step_made.0.homes)
        (All-weaker (λ c. is_live m.environment.world c ≡ true) (λ c. is_live after.environment.world c ≡ true) step_made.0.stay (homes m.serve) (homes_live inputs m m.serve ready.serve)))

    ready_outcome : IsReady inputs (steps + 1) (after_outcome m t (Some after))
    ready_outcome =
        let is = step_made.0 in
        let v = after.environment.world in
        let threads : List Thread = slice_set m.threads t after.thread in
        let names : List Name = roots threads after.serve in
        let rest = reap-stays v names in
        record {
          image = ready.image;
          size = rest.0 ∙ is.size ∙ ready.size;
          sound = sound-reap v names is.well.sound;
          named = contexts-reap v names is.well.named;
          files = files-reap after.environment.channels v names is.well.files;
          given_files = is.given.0 ∙ ready.given_files;
          given_requests = is.given.1 ∙ ready.given_requests;
          few_requests = ready.few_requests;
          reaped = reaped-reap v names;
          limits = is.limits;
          counted = λ job. subst (λ (next : ℕ → Counters). IsCounted (most_counted (steps + 1)) (next job)) (sym rest.1)
              (counts_later (most_counted steps + 2) (most_counted (steps + 1)) _ (omega arith) (counts_more (most_counted steps) 2 _ _ (ready.counted job) (is.rises job)));
          threads = λ k d within. kept_ready v names (get_or threads k d) (each_root threads after.serve k d within) (threads_after k d within);
          count = length-set m.threads t after.thread ∙ ready.count;
          some = rw length-set ready.some;
          few = rw length-set ready.few;
          text = ready.text;
          serve = step_made.1;
        }

module _ (calls : Calls) (act : AllAct calls) (inputs : Inputs) (steps t : ℕ) (m : Machine) (ready : IsReady inputs steps m) (local : IfSome m.serve (λ s. AllLocal calls)) where
  ready_after : (x : Thread) (made : Option AfterStep) → slice_get m.threads t ≡ Some x → thread_outcome calls t m.environment m.serve m.text x x.status ≡ made →
      IsReady inputs (steps + 1) (after_outcome m t made)
  ready_after x None found made = ready_later inputs steps (steps + 1) m (omega arith) ready
  ready_after x (Some after) found made = ready_outcome calls act inputs steps t m x ready local found after made

  ready_found : (found : Option Thread) → slice_get m.threads t ≡ found → IsReady inputs (steps + 1) (after_thread calls m t found)
  ready_found None is = ready_later inputs steps (steps + 1) m (omega arith) ready
  ready_found (Some x) is = ready_after x _ is refl

  -- a step with calls that act keeps a machine ready
  pub ready_step_by : IsReady inputs (steps + 1) (step_by calls m t)
  unfolding step_by
  ready_step_by = ready_found _ refl

pub ready_step : (inputs : Inputs) (steps t : ℕ) (m : Machine) → IsReady inputs steps m → IsReady inputs (steps + 1) (step m t)
ready_step inputs steps t m ready = ready_step_by guest_calls guest_calls_act inputs steps t m ready (whatever m.serve (AllLocal guest_calls) guest_calls_are_local)

-- and over each run
pub ready_run : (inputs : Inputs) (steps : ℕ) (ts : List ℕ) (m : Machine) → IsReady inputs steps m → IsReady inputs (steps + length ts) (run m ts)
ready_run inputs steps [] m ready = ready_later inputs steps (steps + 0) m (omega arith) ready
ready_run inputs steps (t ∷ ts) m ready =
    let next = ready_run inputs (steps + 1) ts (step m t) (ready_step inputs steps t m ready) in
    ready_later inputs (steps + 1 + length ts) (steps + suc (length ts)) (run (step m t) ts) (omega arith) next
