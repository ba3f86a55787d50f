-- In a serve each request that is begun is replied to or served, and each worker that has ended found none left.
use Rattle.std.proofs.Common.{◌≡◌, ◌≢◌, ◌⊎◌, inl, inr, ℕ, zero, suc, ◌+◌, ◌-◌, ◌≤◌, ◌<◌, refl, sym, ap, subst, ◌∙◌, Bool, true, false, cond, ltb, Option, Some, None, List, [], ◌∷◌, length, map, get_or, arith}
use Rattle.std.specs.Prelude.{is_some, replicate, slice_get, slice_set}
use Rattle.std.specs.Option.{option_map_or}
use Rattle.std.proofs.lemmas.Bool.{cases_eq, false≢true}
use Rattle.std.proofs.lemmas.Bool.Decides.{nat_tests}
use Rattle.std.proofs.lemmas.List.{get_or-set_same}
use Rattle.guest_machine.specs.Advances.{advanced}
use Rattle.kernel_core.specs.Histories.{IsComplete}
use Rattle.kernel_core.specs.Kernel.{CanOpen}
use Rattle.kernel_core.specs.Machine.{Machine, Serve, has_ended, homes_of, in_serve, is_ended, reply_of}
use Rattle.kernel_core.specs.Runs.{run}
use Rattle.kernel_core.specs.Start.{Inputs, first_entry, first_workers, serve_at, start, threads_at}
use Rattle.kernel_core.specs.Step.{AfterStep, Outcome, advance_outcome, after_outcome, after_thread, begin_next, finish, finished_by, guest_calls, only, settled, step, step_by, thread_outcome, unchanged, waiting, with_reply, with_status, woken}
use Rattle.kernel_core.specs.Settings.{IsJob}
use Rattle.kernel_core.specs.declared.settings.Job.{Job}
use Rattle.kernel_core.specs.declared.settings.Job.TheVariants as jobs
use Rattle.kernel_core.specs.declared.thread.Thread.{Thread}
use Rattle.lwc_types.specs.declared.fault.ThreadStatus.{ThreadStatus}
use Rattle.lwc_types.specs.declared.fault.ThreadStatus.TheVariants.{Idle, Running, Done, Faulted}
use Rattle.lwc_types.specs.Registers.{fresh_registers}
use Rattle.lwc_types.specs.declared.name.Name.{Name}
use Rattle.lwc_types.specs.declared.regs.Regs.{Regs}
use Rattle.snapshot_host.specs.declared.finishing.Finished.{Finished}
use Rattle.request_isolation.specs.Replies.{HasReply}
use Rattle.world_views.proofs.JobPlainly.{slice_get-other}
use Rattle.kernel_core.proofs.HomeStart.{ready_start}
use Rattle.kernel_core.proofs.Others.{found_set}
use Rattle.kernel_core.proofs.Outcomes.{IsStep, guest_calls_act, step_running}
use Rattle.kernel_core.proofs.ReadyMachines.{ready_machine}
use Rattle.kernel_core.proofs.ReadyRuns.{ready_step, ready_thread, some_of, well_ready}
use Rattle.kernel_core.specs.Ready.{IsReady, IsReadyServe}

-- a worker serves a request
record HasWorker (threads : List Thread) (r : ℕ) : Type 0 where
  number : ℕ
  thread : Thread
  found : slice_get threads number ≡ Some thread
  running : thread.status ≡ Running
  job : thread.job ≡ r + 1

-- a request that is begun is recorded or served
abbrev IsBegun : List Thread → List (Option Finished) → ℕ → Type 0
IsBegun threads replies r = (is_some (get_or replies r None) ≡ true) ⊎ HasWorker threads r

-- a serve of a number of requests: where a worker has ended, all are begun
record IsServed (n : ℕ) (threads : List Thread) (s : Serve) : Type 0 where
  begun : (r : ℕ) → r < s.next → IsBegun threads s.replies r
  none_left : (t : ℕ) (x : Thread) → slice_get threads t ≡ Some x → has_ended x.status ≡ true → n ≤ s.next

still_some : (replies : List (Option Finished)) (i r : ℕ) (f : Finished) → is_some (get_or replies r None) ≡ true → is_some (get_or (slice_set replies i (Some f)) r None) ≡ true
still_some [] i r f some = some
still_some (x ∷ xs) zero zero f some = refl
still_some (x ∷ xs) zero (suc r) f some = some
still_some (x ∷ xs) (suc i) zero f some = some
still_some (x ∷ xs) (suc i) (suc r) f some = still_some xs i r f some

now_some : (replies : List (Option Finished)) (r : ℕ) (f : Finished) → r < length replies → is_some (get_or (slice_set replies r (Some f)) r None) ≡ true
now_some replies r f within = ap is_some (get_or-set_same replies r (Some f) None within)

-- a thread is set
module _ (n : ℕ) (threads : List Thread) (s : Serve) (t : ℕ) (x y : Thread) (served : IsServed n threads s) (found : slice_get threads t ≡ Some x) where
  worker_stays : (now : List (Option Finished)) (r : ℕ) → (x.job ≡ r + 1 → x.status ≡ Running → IsBegun (slice_set threads t y) now r) → HasWorker threads r → IsBegun (slice_set threads t y) now r
  worker_stays now r own worker =
      elim (cases_eq worker.number t) [
        | inl same ↦
            let is : x ≡ worker.thread = let both : Some x ≡ Some worker.thread = sym found ∙ ap (slice_get threads) (sym same) ∙ worker.found in cc in
            own (ap (λ (z : Thread). z.job) is ∙ worker.job) (ap (λ (z : Thread). z.status) is ∙ worker.running)
        | inr apart ↦ inr (record {
          number = worker.number;
          thread = worker.thread;
          found = slice_get-other threads t worker.number y (λ same. apart (sym same)) ∙ worker.found;
          running = worker.running;
          job = worker.job;
        })
      ]

  begun_stays : (now : List (Option Finished)) (r : ℕ) → (is_some (get_or s.replies r None) ≡ true → is_some (get_or now r None) ≡ true) →
      (x.job ≡ r + 1 → x.status ≡ Running → IsBegun (slice_set threads t y) now r) → IsBegun threads s.replies r → IsBegun (slice_set threads t y) now r
  begun_stays now r stays own (inl some) = inl (stays some)
  begun_stays now r stays own (inr worker) = worker_stays now r own worker

  none_left_after : (next : ℕ) → s.next ≤ next → (has_ended y.status ≡ true → n ≤ next) → (u : ℕ) (z : Thread) → slice_get (slice_set threads t y) u ≡ Some z → has_ended z.status ≡ true → n ≤ next
  none_left_after next later own u z is ended =
      elim (cases_eq u t) [
        | inl same ↦
            let both : y ≡ z = let some : Some y ≡ Some z = sym (found_set threads t x y found) ∙ ap (slice_get (slice_set threads t y)) (sym same) ∙ is in cc in
            own (ap (λ (v : Thread). has_ended v.status) both ∙ ended)
        | inr apart ↦ let before = served.none_left u z (sym (slice_get-other threads t u y (λ same. apart (sym same))) ∙ is) ended in omega (arith, before, later)
      ]

-- a ready machine that serves requests
record Serves (inputs : Inputs) (m : Machine) : Type 0 where
  steps : ℕ
  ready : IsReady inputs steps m
  serve : Serve
  is : m.serve ≡ Some serve
  served : IsServed (length inputs.requests) m.threads serve

-- what a step leaves
record Leaves (n : ℕ) (threads : List Thread) (t : ℕ) (after : AfterStep) : Type 0 where
  serve : Serve
  is : after.serve ≡ Some serve
  served : IsServed n (slice_set threads t after.thread) serve

module _ (inputs : Inputs) (steps : ℕ) (m : Machine) (s : Serve) (t : ℕ) (x : Thread) (ready : IsReady inputs steps m) (serves : IsReadyServe inputs m s)
    (served : IsServed (length inputs.requests) m.threads s) (found : slice_get m.threads t ≡ Some x) where
  abbrev n : ℕ
  n = length inputs.requests

  many : length m.environment.channels.requests ≡ length inputs.requests
  many = ap (λ (l : List (List ℕ)). length l) ready.given_requests

  leaves_woken : (b : Bool) → ltb s.next (length m.environment.channels.requests) ≡ b → x.status ≡ Idle →
      Leaves n m.threads t (cond b (begin_next t s m.environment) (only (Some s) (unchanged m.environment (with_status x (Done 0)))))
  leaves_woken true is idle =
      let y = (begin_next t s m.environment).thread in
      let below : s.next < n = grind (arith, nat_tests, many) in
      record {
        serve = record s { next = s.next + 1 };
        is = refl;
        served = record {
          begun = λ r low. begun_next y refl refl r low (cases_eq r s.next);
          none_left = none_left_after n m.threads s t x y served found (s.next + 1) (omega arith) (λ ended. cc);
        };
      }
    where
      begun_next : (y : Thread) → y.status ≡ Running → y.job ≡ s.next + 1 → (r : ℕ) → r < s.next + 1 → (r ≡ s.next) ⊎ (r ≢ s.next) → IsBegun (slice_set m.threads t y) s.replies r
      begun_next y running job r low (inl same) = inr (record { number = t; thread = y; found = found_set m.threads t x y found; running = running; job = job ∙ ap (λ (k : ℕ). k + 1) (sym same) })
      begun_next y running job r low (inr apart) =
          begun_stays n m.threads s t x y served found s.replies r (λ some. some) (λ own runs. let clash : Idle ≡ Running = sym idle ∙ runs in cc) (served.begun r (omega (arith, low, apart)))
  leaves_woken false is idle =
      let y = with_status x (Done 0) in
      let none : n ≤ s.next = grind (arith, nat_tests, many) in
      record {
        serve = s;
        is = refl;
        served = record {
          begun = λ r low. begun_stays n m.threads s t x y served found s.replies r (λ some. some) (λ own runs. let clash : Idle ≡ Running = sym idle ∙ runs in cc) (served.begun r low);
          none_left = none_left_after n m.threads s t x y served found s.next (omega arith) (λ ended. none);
        };
      }

  leaves_settled : (outcome : Outcome) → IsStep m.environment x outcome → (b : Bool) → has_ended outcome.thread.status ≡ b → Leaves n m.threads t (cond b (finish t s outcome) (only (Some s) outcome))
  leaves_settled outcome acts true ended =
      let f = finished_by outcome.thread outcome.environment.channels in
      let y = (finish t s outcome).thread in
      record {
        serve = with_reply s f;
        is = refl;
        served = record {
          begun = λ r low.
              begun_stays n m.threads s t x y served found (slice_set s.replies f.request (Some f)) r (still_some s.replies f.request r f)
              (λ own runs. inl (recorded r low f refl own)) (served.begun r low);
          none_left = none_left_after n m.threads s t x y served found s.next (omega arith) (λ ended. cc);
        };
      }
    where
      recorded : (r : ℕ) → r < s.next → (f : Finished) → f.request ≡ outcome.thread.job - 1 → x.job ≡ r + 1 → is_some (get_or (slice_set s.replies f.request (Some f)) r None) ≡ true
      recorded r low f is own =
          let same : f.request ≡ r = omega (arith, is, own, acts.job) in
          subst (λ (k : ℕ). is_some (get_or (slice_set s.replies k (Some f)) r None) ≡ true) (sym same) (now_some s.replies r f (omega (arith, low, serves.next, serves.replies)))
  leaves_settled outcome acts false going = record {
    serve = s;
    is = refl;
    served = record {
      begun = λ r low.
          begun_stays n m.threads s t x outcome.thread served found s.replies r (λ some. some) (λ own runs. inr (record {
            number = t;
            thread = outcome.thread;
            found = found_set m.threads t x outcome.thread found;
            running = acts.going going;
            job = acts.job ∙ own;
          })) (served.begun r low);
      none_left = none_left_after n m.threads s t x outcome.thread served found s.next (omega arith) (λ ended. absurd (false≢true (sym going ∙ ended)));
    };
  }

  leaves_by : (status : ThreadStatus) (after : AfterStep) → x.status ≡ status → thread_outcome guest_calls t m.environment (Some s) m.text x status ≡ Some after → Leaves n m.threads t after
  leaves_by Running after running made =
      let outcome = advance_outcome guest_calls t m.environment x (advanced m.text x.regs) in
      let is : settled t (Some s) outcome ≡ after = cc in
      subst (Leaves n m.threads t) is (leaves_settled outcome (step_running guest_calls guest_calls_act t m.environment x (advanced m.text x.regs) (well_ready inputs steps m ready) running (ready_thread inputs steps t m x ready found)) (has_ended outcome.thread.status) refl)
  leaves_by Idle after idle made =
      let is : woken t (Some s) m.environment x ≡ after = cc in
      subst (Leaves n m.threads t) is (leaves_woken (ltb s.next (length m.environment.channels.requests)) refl idle)
  leaves_by (Done code) after ended made = cc
  leaves_by (Faulted f) after ended made = cc

-- the step of a thread that was found is what it makes
pub step_made : (m : Machine) (t : ℕ) (x : Thread) (made : Option AfterStep) → slice_get m.threads t ≡ Some x → thread_outcome guest_calls t m.environment m.serve m.text x x.status ≡ made → step m t ≡ after_outcome m t made
unfolding step_by
step_made m t x made found is = ap (after_thread guest_calls m t) found ∙ ap (after_outcome m t) is

module _ (inputs : Inputs) (m : Machine) (t : ℕ) (serves : Serves inputs m) where
  serves_after : (x : Thread) → slice_get m.threads t ≡ Some x → (made : Option AfterStep) → thread_outcome guest_calls t m.environment m.serve m.text x x.status ≡ made →
      Serves inputs (after_outcome m t made)
  serves_after x found None is = serves
  serves_after x found (Some after) is =
      let here : IsReadyServe inputs m serves.serve = some_of Serve (IsReadyServe inputs m) m.serve serves.serve serves.is serves.ready.serve in
      let made = ap (λ (serve : Option Serve). thread_outcome guest_calls t m.environment serve m.text x x.status) (sym serves.is) ∙ is in
      let leaves = leaves_by inputs serves.steps m serves.serve t x serves.ready here serves.served found x.status after refl made in
      record {
        steps = serves.steps + 1;
        ready = subst (IsReady inputs (serves.steps + 1)) (step_made m t x (Some after) found is) (ready_step inputs serves.steps t m serves.ready);
        serve = leaves.serve;
        is = leaves.is;
        served = leaves.served;
      }

  serves_found : (found : Option Thread) → slice_get m.threads t ≡ found → Serves inputs (after_thread guest_calls m t found)
  serves_found None is = serves
  serves_found (Some x) is = serves_after x is _ refl

  serves_step : Serves inputs (step m t)
  unfolding step_by
  serves_step = serves_found (slice_get m.threads t) refl

serves_run : (inputs : Inputs) (m : Machine) (steps : List ℕ) → Serves inputs m → Serves inputs (run m steps)
serves_run inputs m [] serves = serves
serves_run inputs m (t ∷ ts) serves = serves_run inputs (step m t) ts (serves_step inputs m t serves)

-- no worker has ended at the start
waits : (regs : Regs) (homes : List Name) (t : ℕ) (x : Thread) → slice_get (map (λ home. waiting home regs) homes) t ≡ Some x → has_ended x.status ≡ false
waits regs [] t x found = cc
waits regs (home ∷ homes) zero x found = let is : waiting home regs ≡ x = cc in ap (λ (y : Thread). has_ended y.status) (sym is)
waits regs (home ∷ homes) (suc t) x found = waits regs homes t x found

serves_start : (inputs : Inputs) (workers : ℕ) → CanOpen inputs → inputs.settings.job ≡ jobs.Serve workers → Serves inputs (start inputs)
unfolding start first_workers
serves_start inputs workers can serve = record {
  steps = 0;
  ready = ready_start inputs can;
  serve = record { workers = workers; budget = inputs.settings.budget; next = 0; replies = replicate (length inputs.requests) None };
  is = ap (λ (job : Job). serve_at job inputs.settings.budget (length inputs.requests)) serve;
  served = record {
    begun = λ r low. absurd (omega (arith, low));
    none_left = λ t x found ended.
        absurd (false≢true (sym (waits (fresh_registers (first_entry inputs.image)) (homes_of workers) t x
        (ap (λ (l : List Thread). slice_get l t) (sym (ap (threads_at inputs.image inputs.settings.budget) serve)) ∙ found)) ∙ ended));
  };
}

some_thread : (threads : List Thread) → 1 ≤ length threads → (x : Thread) × (slice_get threads 0 ≡ Some x)
some_thread [] some = absurd (omega (arith, some))
some_thread (x ∷ xs) some = (x, refl)

ended_thread : (m : Machine) (t : ℕ) (x : Thread) → slice_get m.threads t ≡ Some x → is_ended m t ≡ true → has_ended x.status ≡ true
unfolding is_ended
ended_thread m t x found ended = sym (ap (λ (o : Option Thread). option_map_or (λ (y : Thread). has_ended y.status) o true) found) ∙ ended

has_reply : (m : Machine) (s : Serve) (r : ℕ) → m.serve ≡ Some s → is_some (get_or s.replies r None) ≡ true → HasReply m r
unfolding reply_of
has_reply m s r serve some = by_reply (get_or s.replies r None) refl some
  where
    by_reply : (o : Option Finished) → get_or s.replies r None ≡ o → is_some o ≡ true → HasReply m r
    by_reply None is some = cc
    by_reply (Some f) is some = record { reply = f; recorded = ap (λ (serve : Option Serve). in_serve serve r) serve ∙ is }

-- where each worker has ended, each request has a reply
replied : (inputs : Inputs) (m : Machine) (r : ℕ) → Serves inputs m → ((t : ℕ) → is_ended m t ≡ true) → r < length inputs.requests → HasReply m r
replied inputs m r serves ended below =
    let first = some_thread m.threads serves.ready.some in
    let all : length inputs.requests ≤ serves.serve.next = serves.served.none_left 0 first.0 first.1 (ended_thread m 0 first.0 first.1 (ended 0)) in
    by_begun (serves.served.begun r (omega (arith, below, all)))
  where
    by_begun : IsBegun m.threads serves.serve.replies r → HasReply m r
    by_begun (inl some) = has_reply m serves.serve r serves.is some
    by_begun (inr worker) =
        absurd (false≢true (ap has_ended (sym worker.running) ∙ ended_thread m worker.number worker.thread worker.found (ended worker.number)))

pub some_worker : (job : Job) (workers : ℕ) → IsJob job → job ≡ jobs.Serve workers → 1 ≤ workers
some_worker jobs.Run workers is same = cc
some_worker (jobs.Serve count) workers is same = let both : count ≡ workers = cc in omega (arith, is.0, both)

-- at the end of a serve each request has a reply
pub each_reply : (inputs : Inputs) (steps : List ℕ) (workers r : ℕ) → CanOpen inputs → inputs.settings.job ≡ jobs.Serve workers → IsComplete (start inputs) steps → r < length inputs.requests → HasReply (run (start inputs) steps) r
each_reply inputs steps workers r can serve complete below =
    replied inputs (run (start inputs) steps) r (serves_run inputs (start inputs) steps (serves_start inputs workers can serve)) complete.ended below

-- a serve has as many requests at its end as at its start
pub requests_stay : (inputs : Inputs) (steps : List ℕ) (workers : ℕ) → CanOpen inputs → inputs.settings.job ≡ jobs.Serve workers → length (run (start inputs) steps).environment.channels.requests ≡ length inputs.requests
requests_stay inputs steps workers can serve = ap (λ (l : List (List ℕ)). length l) (ready_machine inputs steps can).given_requests
