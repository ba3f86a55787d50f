-- What each step of a serve keeps, and what the request that it acts for leaves to the others.
use Rattle.std.proofs.Common.{◌≡◌, ◌≢◌, ◌⊎◌, inl, inr, ℕ, ◌+◌, ◌≤◌, ◌<◌, refl, sym, ap, subst, ◌∙◌, true, false, Option, Some, None, List, length, get_or, arith}
use Rattle.std.specs.Prelude.{slice_get, slice_set}
use Rattle.std.proofs.lemmas.List.{get_or-set_other, length-set}
use Rattle.std.proofs.lemmas.Option.{slice_get_within}
use Rattle.guest_image.specs.declared.image.Image.{Image}
use Rattle.guest_machine.specs.Advances.{advanced}
use Rattle.world_views.specs.ByJob.{KeepsJobs}
use Rattle.world_views.specs.Views.{channel_view, view}
use Rattle.kernel_core.specs.Machine.{Machine, Serve, has_ended, home_of}
use Rattle.kernel_core.specs.Step.{AfterStep, Outcome, advance_outcome, after_outcome, begin_next, finish, finished_by, guest_calls, only, roots, thread_outcome, unchanged, with_reply, with_status}
use Rattle.kernel_core.specs.declared.thread.Thread.{Thread}
use Rattle.lwc_base.specs.Life.{IsReaped, is_among, reap}
use Rattle.lwc_base.specs.World.{World, context}
use Rattle.lwc_types.specs.declared.fault.ThreadStatus.TheVariants.{Idle, Running, Done}
use Rattle.request_isolation.proofs.Apart.{ActsApart, acts_apart}
use Rattle.request_isolation.proofs.Homes.{begun_in, home_for}
use Rattle.request_isolation.proofs.Roots.{Nobody, Placed, home_root, nobody_put, no_root, only_root, placed_put, serving}
use Rattle.request_isolation.proofs.Serves.{step_made}
use Rattle.request_isolation.proofs.Taking.{AddsFew, few_begin, few_same}
use Rattle.world_views.proofs.Beginning.{begin-hidden, begin-keeps}
use Rattle.world_views.proofs.Together.{reap-hidden, reap-keeps}
use Rattle.lwc_base.proofs.Facts.{counts}
use Rattle.lwc_base.proofs.Reaped.{reap-stays}
use Rattle.world_views.proofs.JobPlainly.{slice_get-other}
use Rattle.kernel_core.proofs.Outcomes.{IsStep, guest_calls_act, step_running}
use Rattle.kernel_core.proofs.ReadyRuns.{ready_step, ready_thread, some_of, well_ready}
use Rattle.kernel_core.specs.Ready.{IsReady, IsReadyServe}
use Rattle.kernel_core.specs.Start.{Inputs, home_context}

-- a serve of a number of workers and requests: it is ready, each job has what is its own, and workers are apart
pub record Holds (image : Image) (workers budget n : ℕ) (m : Machine) (s : Serve) : Type 0 where
  pub is : m.serve ≡ Some s
  pub own_workers : s.workers ≡ workers
  pub own_budget : s.budget ≡ budget
  pub inputs : Inputs
  pub steps : ℕ
  pub own_image : inputs.image ≡ image
  pub many : length inputs.requests ≡ n
  pub ready : IsReady inputs steps m
  pub jobs : KeepsJobs (home_for image) m.environment.world
  pub placed : Placed m.threads

-- what is known since it is ready
module _ {image : Image} {workers budget n : ℕ} {m : Machine} {s : Serve} (holds : Holds image workers budget n m s) where
  pub ready_serve : IsReadyServe holds.inputs m s
  ready_serve = some_of Serve (IsReadyServe holds.inputs m) m.serve s holds.is holds.ready.serve

  pub thread_count_is : length m.threads ≡ workers
  thread_count_is = ready_serve.count ∙ holds.own_workers

  pub has_worker : 1 ≤ workers
  has_worker = omega (arith, holds.ready.some, thread_count_is)

  pub text_stays : m.text ≡ image.text
  text_stays = holds.ready.text ∙ ap (λ (i : Image). i.text) holds.own_image

  pub request_count_is : length m.environment.channels.requests ≡ n
  request_count_is = ap (λ (l : List (List ℕ)). length l) holds.ready.given_requests ∙ holds.many

  pub reply_count_is : length s.replies ≡ n
  reply_count_is = ready_serve.replies ∙ holds.many

  pub begun_few : s.next ≤ n
  begun_few = omega (arith, ready_serve.next, holds.many)

  pub reaped_now : IsReaped m.environment.world (roots m.threads (Some s))
  reaped_now = subst (λ (serve : Option Serve). IsReaped m.environment.world (roots m.threads serve)) holds.is holds.ready.reaped

  pub home_stays : (t : ℕ) → t < workers → context m.environment.world (home_of t) ≡ home_context image
  home_stays t within = ready_serve.homes t (omega (arith, within, holds.own_workers)) ∙ ap home_context holds.own_image

  pub serving_now : (t : ℕ) (x : Thread) → slice_get m.threads t ≡ Some x → x.status ≡ Running → (x.context.job ≡ x.job) × (1 ≤ x.job) × (x.job ≤ s.next)
  serving_now t x found running = serving m.threads s ready_serve.threads t x found running

-- what a step for a job leaves: of a request it is begun, carried on or finished; job 0 is of a worker that ends
pub record Leaves (image : Image) (m : Machine) (s : Serve) (t acted : ℕ) (x : Thread) (after : AfterStep) (now : Serve) : Type 0 where
  pub made : thread_outcome guest_calls t m.environment (Some s) m.text x x.status ≡ Some after
  pub is : after.serve ≡ Some now
  pub budget : now.budget ≡ s.budget
  pub others : (r : ℕ) → acted ≢ r + 1 → get_or now.replies r None ≡ get_or s.replies r None
  pub next : (now.next ≡ s.next) ⊎ ((now.next ≡ s.next + 1) × (acted ≡ s.next + 1))
  pub jobs : KeepsJobs (home_for image) after.environment.world
  pub hidden : (job u : ℕ) → acted ≢ job → view job u after.environment.world ≡ view job u m.environment.world
  pub channels : (r : ℕ) → acted ≢ r + 1 → channel_view r after.environment.channels ≡ channel_view r m.environment.channels
  pub placed : Placed (slice_set m.threads t after.thread)
  pub own : x.status ≡ Running → x.job ≡ acted
  pub after_job : after.thread.status ≡ Running → after.thread.job ≡ acted
  pub few : AddsFew m.environment.world after.environment.world

module _ (image : Image) (workers budget n : ℕ) (m : Machine) (s : Serve) (holds : Holds image workers budget n m s) (t : ℕ) (x : Thread) (found : slice_get m.threads t ≡ Some x) where
  within : t < workers
  within = let low = slice_get_within m.threads t x found in omega (arith, low, thread_count_is holds)

  -- a running worker acts
  module _ (running : x.status ≡ Running) where
    abbrev outcome : Outcome
    outcome = advance_outcome guest_calls t m.environment x (advanced m.text x.regs)

    here : (x.context.job ≡ x.job) × (1 ≤ x.job) × (x.job ≤ s.next)
    here = serving_now holds t x found running

    pub acts : IsStep m.environment x outcome
    acts =
        step_running guest_calls guest_calls_act t m.environment x (advanced m.text x.regs) (well_ready holds.inputs holds.steps m holds.ready) running
        (ready_thread holds.inputs holds.steps t m x holds.ready found)

    apart : ActsApart (home_for image) x.job m.environment outcome
    apart = acts_apart (home_for image) t m.environment x (advanced m.text x.regs) here.0 (λ none. let some = here.1 in omega (arith, none, some)) holds.jobs

    pub leaves_finished : thread_outcome guest_calls t m.environment (Some s) m.text x x.status ≡ Some (finish t s outcome) →
        Leaves image m s t x.job x (finish t s outcome) (with_reply s (finished_by outcome.thread outcome.environment.channels))
    leaves_finished made =
        let f = finished_by outcome.thread outcome.environment.channels in
        record {
          made = made;
          is = refl;
          budget = refl;
          others = λ r other. get_or-set_other s.replies f.request r (Some f) None (λ same. let job = acts.job in let some = here.1 in other (omega (arith, same, job, some)));
          next = inl refl;
          jobs = apart.apart.jobs;
          hidden = λ job u other. apart.apart.hidden job u other;
          channels = λ r other. apart.apart.channels r other;
          placed = placed_put m.threads t x (finish t s outcome).thread found holds.placed (λ runs. cc) (λ rests. refl);
          own = λ runs. refl;
          after_job = λ runs. cc;
          few = record { size = acts.changes.grows.size; names = acts.changes.grows.names };
        }

    pub leaves_going : has_ended outcome.thread.status ≡ false → thread_outcome guest_calls t m.environment (Some s) m.text x x.status ≡ Some (only (Some s) outcome) →
        Leaves image m s t x.job x (only (Some s) outcome) s
    leaves_going going made = record {
      made = made;
      is = refl;
      budget = refl;
      others = λ r other. refl;
      next = inl refl;
      jobs = apart.apart.jobs;
      hidden = λ job u other. apart.apart.hidden job u other;
      channels = λ r other. apart.apart.channels r other;
      placed =
          placed_put m.threads t x outcome.thread found holds.placed
          (λ runs u z other is also same. other (holds.placed.once u t z x is found also running (same ∙ acts.job)))
          (λ rests. absurd (rests (acts.going going)));
      own = λ runs. refl;
      after_job = λ runs. acts.job;
      few = record { size = acts.changes.grows.size; names = acts.changes.grows.names };
    }

  -- an idle worker begins the next request, or ends
  module _ (idle : x.status ≡ Idle) where
    not_running : x.status ≢ Running
    not_running runs = let clash : Idle ≡ Running = sym idle ∙ runs in cc

    pub leaves_begun : thread_outcome guest_calls t m.environment (Some s) m.text x x.status ≡ Some (begin_next t s m.environment) →
        Leaves image m s t (s.next + 1) x (begin_next t s m.environment) (record s { next = s.next + 1 })
    leaves_begun made =
        let own = begun_in image m.environment.world t (home_stays holds t within) s.next in record {
          made = made;
          is = refl;
          budget = refl;
          others = λ r other. refl;
          next = inr (refl, refl);
          jobs = begin-keeps (home_for image) s.next (home_of t) m.environment.world own holds.jobs;
          hidden = λ job u other. begin-hidden job u s.next (home_of t) m.environment.world other;
          channels = λ r other. refl;
          placed = placed_put m.threads t x (begin_next t s m.environment).thread found holds.placed
              (λ runs u z other is also same. let low = (serving_now holds u z is also).2 in omega (arith, low, same))
              (λ rests. absurd (rests refl));
          own = λ runs. absurd (not_running runs);
          after_job = λ runs. refl;
          few = few_begin m.environment.world (home_of t) s.next holds.ready.sound.fresh;
        }

    pub leaves_ended : thread_outcome guest_calls t m.environment (Some s) m.text x x.status ≡ Some (only (Some s) (unchanged m.environment (with_status x (Done 0)))) →
        Leaves image m s t 0 x (only (Some s) (unchanged m.environment (with_status x (Done 0)))) s
    leaves_ended made = record {
      made = made;
      is = refl;
      budget = refl;
      others = λ r other. refl;
      next = inl refl;
      jobs = holds.jobs;
      hidden = λ job u other. refl;
      channels = λ r other. refl;
      placed = placed_put m.threads t x (with_status x (Done 0)) found holds.placed (λ runs. cc) (λ rests. holds.placed.resting t x found not_running);
      own = λ runs. absurd (not_running runs);
      after_job = λ runs. cc;
      few = few_same m.environment.world;
    }

  -- after the step, and once the rest is dropped
  module _ (acted : ℕ) (after : AfterStep) (now : Serve) (leaves : Leaves image m s t acted x after now) where
    abbrev threads_after : List Thread
    threads_after = slice_set m.threads t after.thread

    abbrev world_after : World
    world_after = (after_outcome m t (Some after)).environment.world

    pub world_is : reap after.environment.world (roots threads_after (Some now)) ≡ world_after
    world_is = ap (λ (serve : Option Serve). reap after.environment.world (roots threads_after serve)) (sym leaves.is)

    ready_then : IsReady holds.inputs (holds.steps + 1) (after_outcome m t (Some after))
    ready_then =
        subst (IsReady holds.inputs (holds.steps + 1))
        (step_made m t x (Some after) found (ap (λ (serve : Option Serve). thread_outcome guest_calls t m.environment serve m.text x x.status) holds.is ∙ leaves.made))
        (ready_step holds.inputs holds.steps t m holds.ready)

    serve_then : IsReadyServe holds.inputs (after_outcome m t (Some after)) now
    serve_then = some_of Serve (IsReadyServe holds.inputs (after_outcome m t (Some after))) after.serve now leaves.is ready_then.serve

    workers_then : now.workers ≡ workers
    workers_then = sym serve_then.count ∙ length-set m.threads t after.thread ∙ thread_count_is holds

    pub home_at_root : is_among (roots threads_after (Some now)) (home_of 0) ≡ true
    home_at_root = home_root threads_after now 0 (omega (arith, has_worker holds, workers_then))

    jobs_after : KeepsJobs (home_for image) (reap after.environment.world (roots threads_after (Some now)))
    jobs_after = reap-keeps (home_for image) after.environment.world (roots threads_after (Some now)) home_at_root leaves.jobs

    -- a job with the same roots that the step did not act for sees the same
    unseen : (job u : ℕ) → ((k : ℕ) → is_among (roots m.threads (Some s)) (record { job = job; k = k }) ≡ is_among (roots threads_after (Some now)) (record { job = job; k = k })) →
        view job u after.environment.world ≡ view job u m.environment.world → view job u world_after ≡ view job u m.environment.world
    unseen job u same seen =
        subst (λ (w : World). view job u w ≡ view job u m.environment.world) world_is
        (reap-hidden (home_for image) job u m.environment.world after.environment.world (roots m.threads (Some s)) (roots threads_after (Some now)) (reaped_now holds) holds.jobs leaves.jobs same seen)

    pub holds_after : Holds image workers budget n (after_outcome m t (Some after)) now
    holds_after = record {
      is = leaves.is;
      own_workers = workers_then;
      own_budget = leaves.budget ∙ holds.own_budget;
      inputs = holds.inputs;
      steps = holds.steps + 1;
      own_image = holds.own_image;
      many = holds.many;
      ready = ready_then;
      jobs = subst (KeepsJobs (home_for image)) world_is jobs_after;
      placed = leaves.placed;
    }

    -- a request that is served by another worker, or by nobody, sees the same
    pub unseen_served : (r u : ℕ) (z : Thread) → acted ≢ r + 1 → slice_get m.threads u ≡ Some z → z.status ≡ Running → z.job ≡ r + 1 → u ≢ t → (v : ℕ) → view (r + 1) v world_after ≡ view (r + 1) v m.environment.world
    unseen_served r u z other is runs job not_t v =
        unseen (r + 1) v
        (λ k. only_root m.threads s (ready_serve holds).threads holds.placed r k u z is runs job
        ∙ sym (only_root threads_after now serve_then.threads leaves.placed r k u z (slice_get-other m.threads t u after.thread (λ same. not_t (sym same)) ∙ is) runs job))
        (leaves.hidden (r + 1) v other)

    pub nobody_after : (r : ℕ) → acted ≢ r + 1 → Nobody m.threads r → Nobody threads_after r
    nobody_after r other nobody = nobody_put m.threads t x after.thread found r (λ runs same. other (sym (leaves.after_job runs) ∙ same)) nobody

    pub unseen_nobody : (r : ℕ) → acted ≢ r + 1 → Nobody m.threads r → (v : ℕ) → view (r + 1) v world_after ≡ view (r + 1) v m.environment.world
    unseen_nobody r other nobody v =
        unseen (r + 1) v
        (λ k. no_root m.threads s (ready_serve holds).threads holds.placed r k nobody ∙ sym (no_root threads_after now serve_then.threads leaves.placed r k (nobody_after r other nobody)))
        (leaves.hidden (r + 1) v other)

    -- few contexts and groups are added, and the size stays
    pub few_after : AddsFew m.environment.world world_after
    few_after =
        let rest = reap-stays after.environment.world (roots threads_after (Some now)) in
        let fewer = counts.reaped after.environment.world (roots threads_after (Some now)) in
        subst (AddsFew m.environment.world) world_is (record {
          size = rest.0 ∙ leaves.few.size;
          names = let few = leaves.few.names in let contexts = fewer.contexts in let groups = fewer.groups in omega (arith, few, contexts, groups);
        })
