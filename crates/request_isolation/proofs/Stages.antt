-- Where a request is in a serve: it waits, or is served as it is by itself, or is told what it is told by itself.
use Rattle.std.proofs.Common.{◌≡◌, ◌≢◌, ◌⊎◌, inl, inr, ℕ, zero, suc, ◌+◌, ◌-◌, ◌*◌, ◌≤◌, ◌<◌, refl, sym, ap, subst, ◌∙◌, Bool, true, false, cond, eqb, ltb, Option, Some, None, List, [], length, get_or, arith}
use Rattle.std.specs.Prelude.{slice_get, slice_set, unwrap_or}
use Rattle.std.specs.Ordering.{eq_by_cmp}
use Rattle.std.proofs.lemmas.Bool.Decides.{nat_tests}
use Rattle.std.proofs.lemmas.List.{get_or-set_same}
use Rattle.std.proofs.lemmas.Option.{slice_get_within, unwrap_or-slice_get}
use Rattle.guest_isa.specs.declared.instr.Instr.{Instr}
use Rattle.guest_image.specs.declared.image.Image.{Image}
use Rattle.guest_machine.specs.Advances.{advanced}
use Rattle.world_views.specs.ByJob.{LooksAlike}
use Rattle.world_views.specs.Views.{ChannelView, channel_view, view}
use Rattle.kernel_core.specs.Machine.{Machine, Serve, has_ended, home_of, in_serve, reply_of}
use Rattle.kernel_core.specs.Start.{world_size}
use Rattle.kernel_core.specs.Step.{AfterStep, Outcome, advance_outcome, after_outcome, after_thread, begin_next, finish, finished_by, guest_calls, only, roots, serving, status_with, step, step_by, thread_outcome, unchanged, with_regs, with_reply, with_status}
use Rattle.kernel_core.specs.declared.thread.Thread.{Thread}
use Rattle.lwc_base.specs.Channels.{Channels, bytes_in}
use Rattle.lwc_base.specs.Life.{reap}
use Rattle.lwc_base.specs.World.{World, context}
use Rattle.lwc_types.specs.Names.{name_cmp}
use Rattle.lwc_types.specs.declared.fault.Fault.TheVariants as fault
use Rattle.lwc_types.specs.declared.fault.ThreadStatus.{ThreadStatus}
use Rattle.lwc_types.specs.declared.fault.ThreadStatus.TheVariants.{Idle, Running, Done, Faulted}
use Rattle.snapshot_host.specs.Begin.{begin}
use Rattle.snapshot_host.specs.declared.finishing.Finished.{Finished}
use Rattle.request_isolation.specs.Needs.{WantsFrames}
use Rattle.request_isolation.proofs.Alike.{ActsAlike, acts_alike}
use Rattle.request_isolation.proofs.Homes.{IsHomeOf, begun_alike, begun_in, entry_of_home, home_for}
use Rattle.request_isolation.proofs.Holds.{Holds, Leaves, acts, begun_few, few_after, holds_after, home_at_root, home_stays, leaves_begun, leaves_ended, leaves_finished, leaves_going, nobody_after, ready_serve, reply_count_is, request_count_is, serving_now, text_stays, thread_count_is, unseen_nobody, unseen_served, world_is}
use Rattle.request_isolation.proofs.Roots.{Nobody, only_root}
use Rattle.request_isolation.proofs.Taking.{names_of}
use Rattle.world_views.proofs.Beginning.{begin-alike}
use Rattle.world_views.proofs.Together.{reap-alike}
use Rattle.world_views.proofs.JobPlainly.{slice_get-other}
use Rattle.kernel_core.proofs.Others.{found_set}
use Rattle.std.proofs.lemmas.Bool.{cases_eq}

-- the act of a running thread
abbrev pub acted_by : Machine → ℕ → Thread → Outcome
acted_by m t x = advance_outcome guest_calls t m.environment x (advanced m.text x.regs)

-- a machine after a number of steps of its first thread
abbrev pub by_one : Machine → ℕ → Machine
by_one m zero = m
by_one m (suc k) = step (by_one m k) 0

-- how a step is made, for which job, what it leaves and the serve then
pub data How (m : Machine) (s : Serve) (t : ℕ) (x : Thread) : ℕ → AfterStep → Serve → Type 0 where
  Finishes : x.status ≡ Running → has_ended (acted_by m t x).thread.status ≡ true →
      How m s t x x.job (finish t s (acted_by m t x)) (with_reply s (finished_by (acted_by m t x).thread (acted_by m t x).environment.channels))
  Goes : x.status ≡ Running → has_ended (acted_by m t x).thread.status ≡ false → How m s t x x.job (only (Some s) (acted_by m t x)) s
  Begins : x.status ≡ Idle → ltb s.next (length m.environment.channels.requests) ≡ true → How m s t x (s.next + 1) (begin_next t s m.environment) (record s { next = s.next + 1 })
  Ends : x.status ≡ Idle → ltb s.next (length m.environment.channels.requests) ≡ false → How m s t x 0 (only (Some s) (unchanged m.environment (with_status x (Done 0)))) s

pub how_made : (m : Machine) (s : Serve) (t : ℕ) (x : Thread) (acted : ℕ) (after : AfterStep) (now : Serve) → How m s t x acted after now →
    thread_outcome guest_calls t m.environment (Some s) m.text x x.status ≡ Some after
how_made m s t x _ _ _ (Finishes running ended) =
    ap (thread_outcome guest_calls t m.environment (Some s) m.text x) running ∙ ap (λ b. Some (cond b (finish t s (acted_by m t x)) (only (Some s) (acted_by m t x)))) ended
how_made m s t x _ _ _ (Goes running going) =
    ap (thread_outcome guest_calls t m.environment (Some s) m.text x) running ∙ ap (λ b. Some (cond b (finish t s (acted_by m t x)) (only (Some s) (acted_by m t x)))) going
how_made m s t x _ _ _ (Begins idle some) =
    ap (thread_outcome guest_calls t m.environment (Some s) m.text x) idle ∙ ap (λ b. Some (cond b (begin_next t s m.environment) (only (Some s) (unchanged m.environment (with_status x (Done 0)))))) some
how_made m s t x _ _ _ (Ends idle none) =
    ap (thread_outcome guest_calls t m.environment (Some s) m.text x) idle ∙ ap (λ b. Some (cond b (begin_next t s m.environment) (only (Some s) (unchanged m.environment (with_status x (Done 0)))))) none

-- the step is that
pub how_step : (m : Machine) (s : Serve) (t : ℕ) (x : Thread) (acted : ℕ) (after : AfterStep) (now : Serve) → m.serve ≡ Some s → slice_get m.threads t ≡ Some x → How m s t x acted after now →
    step m t ≡ after_outcome m t (Some after)
unfolding step_by
how_step m s t x acted after now serve found how =
    ap (after_thread guest_calls m t) found
    ∙ ap (λ (o : Option Serve). after_outcome m t (thread_outcome guest_calls t m.environment o m.text x x.status)) serve
    ∙ ap (after_outcome m t) (how_made m s t x acted after now how)

-- a step that is made
pub record Made (m : Machine) (s : Serve) (t : ℕ) : Type 0 where
  pub thread : Thread
  pub found : slice_get m.threads t ≡ Some thread
  pub acted : ℕ
  pub after : AfterStep
  pub now : Serve
  pub how : How m s t thread acted after now

module _ (m : Machine) (s : Serve) (t : ℕ) (serve : m.serve ≡ Some s) where
  made_by : (x : Thread) → slice_get m.threads t ≡ Some x → (status : ThreadStatus) → x.status ≡ status → (step m t ≡ m) ⊎ Made m s t
  unfolding step_by
  made_by x found Running running = by_end (has_ended (acted_by m t x).thread.status) refl
    where
      by_end : (b : Bool) → has_ended (acted_by m t x).thread.status ≡ b → (step m t ≡ m) ⊎ Made m s t
      by_end true ended = inr (record { thread = x; found = found; acted = x.job; after = _; now = _; how = Finishes running ended })
      by_end false going = inr (record { thread = x; found = found; acted = x.job; after = _; now = _; how = Goes running going })
  made_by x found Idle idle = by_left (ltb s.next (length m.environment.channels.requests)) refl
    where
      by_left : (b : Bool) → ltb s.next (length m.environment.channels.requests) ≡ b → (step m t ≡ m) ⊎ Made m s t
      by_left true some = inr (record { thread = x; found = found; acted = s.next + 1; after = _; now = _; how = Begins idle some })
      by_left false none = inr (record { thread = x; found = found; acted = 0; after = _; now = _; how = Ends idle none })
  made_by x found (Done code) ended =
      inl (ap (after_thread guest_calls m t) found ∙ ap (λ (st : ThreadStatus). after_outcome m t (thread_outcome guest_calls t m.environment m.serve m.text x st)) ended)
  made_by x found (Faulted f) ended =
      inl (ap (after_thread guest_calls m t) found ∙ ap (λ (st : ThreadStatus). after_outcome m t (thread_outcome guest_calls t m.environment m.serve m.text x st)) ended)

  made_found : (found : Option Thread) → slice_get m.threads t ≡ found → (step m t ≡ m) ⊎ Made m s t
  unfolding step_by
  made_found None is = inl (ap (after_thread guest_calls m t) is)
  made_found (Some x) is = made_by x is x.status refl

  -- a step changes nothing or is made
  pub made_or_not : (step m t ≡ m) ⊎ Made m s t
  made_or_not = made_found (slice_get m.threads t) refl

module _ (image : Image) (budget : ℕ) where
  module _ (workers n : ℕ) (m : Machine) (s : Serve) (holds : Holds image workers budget n m s) (t : ℕ) (x : Thread) (found : slice_get m.threads t ≡ Some x) where
    pub leaves_by : (acted : ℕ) (after : AfterStep) (now : Serve) → How m s t x acted after now → Leaves image m s t acted x after now
    leaves_by _ _ _ (Finishes running ended) = leaves_finished image workers budget n m s holds t x found running (how_made m s t x _ _ _ (Finishes running ended))
    leaves_by _ _ _ (Goes running going) = leaves_going image workers budget n m s holds t x found running going (how_made m s t x _ _ _ (Goes running going))
    leaves_by _ _ _ (Begins idle some) = leaves_begun image workers budget n m s holds t x found idle (how_made m s t x _ _ _ (Begins idle some))
    leaves_by _ _ _ (Ends idle none) = leaves_ended image workers budget n m s holds t x found idle (how_made m s t x _ _ _ (Ends idle none))

  -- a request is told a reply, and nobody serves it
  pub record IsTold (r : ℕ) (reply : Option Finished) (m : Machine) (s : Serve) : Type 0 where
    pub begun : r < s.next
    pub nobody : Nobody m.threads r
    pub told : get_or s.replies r None ≡ reply

  -- a serve that holds, with a fact of it
  pub record Stands (workers n : ℕ) (P : Machine → Serve → Type 0) (m : Machine) : Type 0 where
    pub serve : Serve
    pub holds : Holds image workers budget n m serve
    pub fact : P m serve

  module _ (workers n : ℕ) where
    later : (m : Machine) (s : Serve) (holds : Holds image workers budget n m s) (t : ℕ) (made : Made m s t) → s.next ≤ made.now.next
    later m s holds t made =
        let leaves = leaves_by workers n m s holds t made.thread made.found made.acted made.after made.now made.how in
        elim leaves.next [
          | inl same ↦ omega (arith, same)
          | inr more ↦ omega (arith, more.0)
        ]

    -- a step keeps a fact if each step that is made does
    pub stands_step : (P Q : Machine → Serve → Type 0) (m : Machine) (t : ℕ) → (stands : Stands workers n P m) → (P m stands.serve → Q m stands.serve) →
        ((made : Made m stands.serve t) → Q (after_outcome m t (Some made.after)) made.now) → Stands workers n Q (step m t)
    stands_step P Q m t stands stays keeps =
        elim (made_or_not m stands.serve t stands.holds.is) [
          | inl same ↦ subst (Stands workers n Q) (sym same) (record { serve = stands.serve; holds = stands.holds; fact = stays stands.fact })
          | inr made ↦
              subst (Stands workers n Q) (sym (how_step m stands.serve t made.thread made.acted made.after made.now stands.holds.is made.found made.how))
              (record {
                serve = made.now;
                holds = holds_after image workers budget n m stands.serve stands.holds t made.thread made.found made.acted made.after made.now
                    (leaves_by workers n m stands.serve stands.holds t made.thread made.found made.acted made.after made.now made.how);
                fact = keeps made;
              })
        ]

    -- a step for another job keeps what is told
    pub told_others : (r : ℕ) (reply : Option Finished) (m : Machine) (s : Serve) (holds : Holds image workers budget n m s) (t : ℕ) (made : Made m s t) → made.acted ≢ r + 1 → IsTold r reply m s →
        IsTold r reply (after_outcome m t (Some made.after)) made.now
    told_others r reply m s holds t made other is =
        let leaves = leaves_by workers n m s holds t made.thread made.found made.acted made.after made.now made.how in
        let more = later m s holds t made in
        record {
          begun = omega (arith, is.begun, more);
          nobody = nobody_after image workers budget n m s holds t made.thread made.found made.acted made.after made.now leaves r other is.nobody;
          told = leaves.others r other ∙ is.told;
        }

    -- and no step is made for a request that nobody serves any more
    pub other_than_told : (r : ℕ) (reply : Option Finished) (m : Machine) (s : Serve) (t : ℕ) (x : Thread) → slice_get m.threads t ≡ Some x → IsTold r reply m s → (acted : ℕ) (after : AfterStep) (now : Serve) →
        How m s t x acted after now → acted ≢ r + 1
    other_than_told r reply m s t x found is _ _ _ (Finishes running ended) = is.nobody t x found running
    other_than_told r reply m s t x found is _ _ _ (Goes running going) = is.nobody t x found running
    other_than_told r reply m s t x found is _ _ _ (Begins idle some) = λ same. let low = is.begun in omega (arith, same, low)
    other_than_told r reply m s t x found is _ _ _ (Ends idle none) = λ same. omega (arith, same)

    pub told_step : (r : ℕ) (reply : Option Finished) (m : Machine) (t : ℕ) → Stands workers n (IsTold r reply) m → Stands workers n (IsTold r reply) (step m t)
    told_step r reply m t stands =
        stands_step (IsTold r reply) (IsTold r reply) m t stands (λ fact. fact)
        (λ made. told_others r reply m stands.serve stands.holds t made (other_than_told r reply m stands.serve t made.thread made.found stands.fact made.acted made.after made.now made.how) stands.fact)

  -- a request that is finished is told its reply
  module _ (workers n r : ℕ) (m : Machine) (s : Serve) (holds : Holds image workers budget n m s) (t : ℕ) (x : Thread) (found : slice_get m.threads t ≡ Some x) (running : x.status ≡ Running) (job : x.job ≡ r + 1) where
    nobody_left : (y : Thread) → y.status ≡ Idle → Nobody (slice_set m.threads t y) r
    nobody_left y idle u z is runs own =
        elim (cases_eq u t) [
          | inl same ↦
              let both : y ≡ z = let some : Some y ≡ Some z = sym (found_set m.threads t x y found) ∙ ap (slice_get (slice_set m.threads t y)) (sym same) ∙ is in cc in
              let clash : Idle ≡ Running = sym idle ∙ ap (λ (v : Thread). v.status) both ∙ runs in cc
          | inr apart ↦ apart (holds.placed.once u t z x (sym (slice_get-other m.threads t u y (λ same. apart (sym same))) ∙ is) found runs running (own ∙ sym job))
        ]

    pub request_is : (acted_by m t x).thread.job - 1 ≡ r
    request_is = let same = (acts image workers budget n m s holds t x found running).job in omega (arith, same, job)

    pub finished_told : IsTold r (Some (finished_by (acted_by m t x).thread (acted_by m t x).environment.channels)) (after_outcome m t (Some (finish t s (acted_by m t x))))
        (with_reply s (finished_by (acted_by m t x).thread (acted_by m t x).environment.channels))
    finished_told =
        let f = finished_by (acted_by m t x).thread (acted_by m t x).environment.channels in
        let begun = (serving_now holds t x found running).2 in
        record {
          begun = omega (arith, begun, job);
          nobody = nobody_left (finish t s (acted_by m t x)).thread refl;
          told = subst (λ (q : ℕ). get_or (slice_set s.replies q (Some f)) r None ≡ Some f) (sym request_is)
              (get_or-set_same s.replies r (Some f) None (omega (arith, begun, job, begun_few holds, reply_count_is holds)));
        }

    -- and it is so after the step
    pub stands_told : has_ended (acted_by m t x).thread.status ≡ true → Stands workers n (IsTold r (Some (finished_by (acted_by m t x).thread (acted_by m t x).environment.channels))) (step m t)
    stands_told ended =
        let o = acted_by m t x in
        let f = finished_by o.thread o.environment.channels in
        let how : How m s t x x.job (finish t s o) (with_reply s f) = Finishes running ended in
        subst (Stands workers n (IsTold r (Some f))) (sym (how_step m s t x x.job (finish t s o) (with_reply s f) holds.is found how))
        (record {
          serve = with_reply s f;
          holds = holds_after image workers budget n m s holds t x found x.job (finish t s o) (with_reply s f) (leaves_by workers n m s holds t x found x.job (finish t s o) (with_reply s f) how);
          fact = finished_told;
        })

  pub bytes_seen : (r : ℕ) (io other : Channels) → channel_view r io ≡ channel_view r other → bytes_in io.replies r ≡ bytes_in other.replies r
  unfolding channel_view
  bytes_seen r io other same =
      sym (unwrap_or-slice_get io.replies r []) ∙ ap (λ (v : ChannelView). unwrap_or v.reply []) same ∙ unwrap_or-slice_get other.replies r []

  finished_same : (r : ℕ) (y z : Thread) (io other : Channels) → y ≡ z → y.job - 1 ≡ r → channel_view r io ≡ channel_view r other → finished_by y io ≡ finished_by z other
  finished_same r y z io other same job seen =
      ap (λ (b : List ℕ). record { request = y.job - 1; status = y.status; bytes = b })
      (ap (bytes_in io.replies) job ∙ bytes_seen r io other seen ∙ ap (bytes_in other.replies) (sym job))
      ∙ ap (λ (v : Thread). finished_by v other) same

  steps_left_by : (left : ℕ) (st : ThreadStatus) → status_with left st ≡ Running → 1 ≤ left
  steps_left_by left Running is = by_left (eqb left 0) refl is
    where
      by_left : (b : Bool) → eqb left 0 ≡ b → cond b (Faulted fault.Budget) Running ≡ Running → 1 ≤ left
      by_left true none same = cc
      by_left false some same = grind (arith, nat_tests)
  steps_left_by left Idle is = cc
  steps_left_by left (Done code) is = cc
  steps_left_by left (Faulted f) is = cc

  budget_after : (m : Machine) (t : ℕ) (x : Thread) → (acted_by m t x).thread.budget ≡ x.budget - 1
  unfolding advance_outcome
  budget_after m t x = refl

  budget_left : (m : Machine) (t : ℕ) (x : Thread) → (acted_by m t x).thread.status ≡ Running → 1 ≤ x.budget - 1
  unfolding advance_outcome
  budget_left m t x runs = steps_left_by (x.budget - 1) _ runs

  -- a request by itself: the serve of one worker from whose start it is the next
  module _ (r : ℕ) (start : Machine) (first : Serve) (starts : Holds image 1 budget (r + 1) start first) (next : first.next ≡ r) (none_told : get_or first.replies r None ≡ None)
      (waiting_first : (x : Thread) × (slice_get start.threads 0 ≡ Some x) × (x.status ≡ Idle)) (some_budget : 1 ≤ budget) where
    -- that serve after a number of steps
    abbrev alone_at : ℕ → Machine
    alone_at k = by_one start k

    module _ (frames : ℕ) (size_first : start.environment.world.size ≡ world_size image.form frames) (names_first : names_of start.environment.world ≤ 1) where
      -- what a request is told by itself
      abbrev pub last_told : Option Finished
      last_told = reply_of (alone_at (budget + 1)) r

      -- the request by itself after a number of steps in which this thread serves it
      pub record IsBegun (thread : Thread) (k : ℕ) (a : Machine) (sa : Serve) : Type 0 where
        pub found : slice_get a.threads 0 ≡ Some thread
        pub none : get_or sa.replies r None ≡ None
        pub begun : sa.next ≡ r + 1
        pub size : a.environment.world.size ≡ world_size image.form frames
        pub names : names_of a.environment.world ≤ 2 * k + 1

      -- a worker serves the request as by itself after a number of steps
      pub record IsServed (m : Machine) (k : ℕ) : Type 0 where
        pub number : ℕ
        pub thread : Thread
        pub found : slice_get m.threads number ≡ Some thread
        pub running : thread.status ≡ Running
        pub job : thread.job ≡ r + 1
        pub some : 1 ≤ thread.budget
        pub left : thread.budget + k ≡ budget + 1
        pub alone : Stands 1 (r + 1) (IsBegun thread k) (alone_at k)
        pub like : LooksAlike (home_for image) (r + 1) number 0 m.environment.world (alone_at k).environment.world
        pub channels : channel_view r m.environment.channels ≡ channel_view r (alone_at k).environment.channels

      -- a step of the thread that serves the request has frames, here and by itself
      pub record IsEnough (m : Machine) (x : Thread) (k : ℕ) : Type 0 where
        pub here : WantsFrames m.environment (with_regs x (advanced m.text x.regs).after) (advanced m.text x.regs).next → ⊥
        pub alone : WantsFrames (alone_at k).environment (with_regs x (advanced m.text x.regs).after) (advanced m.text x.regs).next → ⊥

      -- where the request is in a serve
      pub data Stage (m : Machine) (s : Serve) : Type 0 where
        Waits : s.next ≤ r → ((v : ℕ) → view (r + 1) v m.environment.world ≡ view (r + 1) 0 start.environment.world) →
            channel_view r m.environment.channels ≡ channel_view r start.environment.channels → get_or s.replies r None ≡ None → Stage m s
        Served : (k : ℕ) → r < s.next → get_or s.replies r None ≡ None → IsServed m k → Stage m s
        Told : IsTold r last_told m s → Stage m s

      module _ (workers n : ℕ) (m : Machine) (s : Serve) (holds : Holds image workers budget n m s) (t : ℕ) where
        -- a step for another job keeps the stage
        module _ (made : Made m s t) (other : made.acted ≢ r + 1) where
          leaves : Leaves image m s t made.acted made.thread made.after made.now
          leaves = leaves_by workers n m s holds t made.thread made.found made.acted made.after made.now made.how

          nobody_waits : s.next ≤ r → Nobody m.threads r
          nobody_waits low u z is runs same = let begun = (serving_now holds u z is runs).2 in omega (arith, low, same, begun)

          still_waits : s.next ≤ r → made.now.next ≤ r
          still_waits low =
              elim leaves.next [
                | inl same ↦ omega (arith, same, low)
                | inr more ↦ elim (cases_eq s.next r) [
                  | inl same ↦ absurd (other (more.1 ∙ ap (λ (k : ℕ). k + 1) same))
                  | inr apart ↦ omega (arith, low, apart, more.0)
                ]
              ]

          not_own : (u : ℕ) (z : Thread) → slice_get m.threads u ≡ Some z → z.status ≡ Running → z.job ≡ r + 1 → u ≢ t
          not_own u z is runs job same =
              let both : made.thread ≡ z = let some : Some made.thread ≡ Some z = sym made.found ∙ ap (slice_get m.threads) (sym same) ∙ is in cc in
              other (sym (leaves.own (ap (λ (x : Thread). x.status) both ∙ runs)) ∙ ap (λ (x : Thread). x.job) both ∙ job)

          stage_others : Stage m s → Stage (after_outcome m t (Some made.after)) made.now
          stage_others (Waits low views channels none) =
              Waits (still_waits low) (λ v. unseen_nobody image workers budget n m s holds t made.thread made.found made.acted made.after made.now leaves r other (nobody_waits low) v ∙ views v)
              (leaves.channels r other ∙ channels) (leaves.others r other ∙ none)
          stage_others (Served k begun none served) =
              let apart = not_own served.number served.thread served.found served.running served.job in
              let after = holds_after image workers budget n m s holds t made.thread made.found made.acted made.after made.now leaves in
              let more = later workers n m s holds t made in
              Served k (omega (arith, begun, more)) (leaves.others r other ∙ none) (record {
                number = served.number;
                thread = served.thread;
                found = slice_get-other m.threads t served.number made.after.thread (λ same. apart (sym same)) ∙ served.found;
                running = served.running;
                job = served.job;
                some = served.some;
                left = served.left;
                alone = served.alone;
                like = record {
                  some_job = served.like.some_job;
                  first = after.jobs;
                  second = served.like.second;
                  seen = unseen_served image workers budget n m s holds t made.thread made.found made.acted made.after made.now leaves r served.number served.thread other served.found served.running served.job apart served.number
                      ∙ served.like.seen;
                };
                channels = leaves.channels r other ∙ served.channels;
              })
          stage_others (Told is) = Told (told_others workers n r last_told m s holds t made other is)

        -- a step of the worker that serves the request, here and by itself
        joins : (k : ℕ) (x : Thread) (acted : ℕ) (after : AfterStep) (now : Serve) → slice_get m.threads t ≡ Some x → How m s t x acted after now →
            (sa : Serve) → Holds image 1 budget (r + 1) (alone_at k) sa → (xa : Thread) (also : ℕ) (after_a : AfterStep) (now_a : Serve) → slice_get (alone_at k).threads 0 ≡ Some xa → How (alone_at k) sa 0 xa also after_a now_a →
            after.thread ≡ after_a.thread → after.thread.status ≡ Running → after.thread.job ≡ r + 1 → 1 ≤ after.thread.budget → after.thread.budget + suc k ≡ budget + 1 →
            now_a.next ≡ r + 1 → get_or now_a.replies r None ≡ None → LooksAlike (home_for image) (r + 1) t 0 after.environment.world after_a.environment.world →
            channel_view r after.environment.channels ≡ channel_view r after_a.environment.channels → (alone_at k).environment.world.size ≡ world_size image.form frames →
            names_of (alone_at k).environment.world ≤ 2 * k + 1 → IsServed (after_outcome m t (Some after)) (suc k)
        joins k x acted after now found how sa holds_a xa also after_a now_a found_a how_a threads runs job some left begun none like channels size names =
            let a = alone_at k in
            let leaves = leaves_by workers n m s holds t x found acted after now how in
            let leaves_a = leaves_by 1 (r + 1) a sa holds_a 0 xa found_a also after_a now_a how_a in
            let holds_next = holds_after image 1 budget (r + 1) a sa holds_a 0 xa found_a also after_a now_a leaves_a in
            let few = few_after image 1 budget (r + 1) a sa holds_a 0 xa found_a also after_a now_a leaves_a in
            let is : alone_at (suc k) ≡ after_outcome a 0 (Some after_a) = how_step a sa 0 xa also after_a now_a holds_a.is found_a how_a in
            let threads_m = slice_set m.threads t after.thread in
            let threads_a = slice_set a.threads 0 after_a.thread in
            let there : slice_get threads_m t ≡ Some after.thread = found_set m.threads t x after.thread found in
            let there_a : slice_get threads_a 0 ≡ Some after_a.thread = found_set a.threads 0 xa after_a.thread found_a in
            let holds_then = holds_after image workers budget n m s holds t x found acted after now leaves in
            let reaped : LooksAlike (home_for image) (r + 1) t 0 (reap after.environment.world (roots threads_m (Some now))) (reap after_a.environment.world (roots threads_a (Some now_a))) =
            reap-alike (home_for image) (r + 1) t 0 after.environment.world after_a.environment.world (roots threads_m (Some now)) (roots threads_a (Some now_a))
            (home_at_root image workers budget n m s holds t x found acted after now leaves) (home_at_root image 1 budget (r + 1) a sa holds_a 0 xa found_a also after_a now_a leaves_a)
            (λ q. only_root threads_m now (ready_serve holds_then).threads leaves.placed r q t after.thread there runs job
            ∙ ap (λ (y : Thread). eq_by_cmp name_cmp (record { job = r + 1; k = q }) y.context) threads
            ∙ sym (only_root threads_a now_a (ready_serve holds_next).threads leaves_a.placed r q 0 after_a.thread there_a (ap (λ (y : Thread). y.status) (sym threads) ∙ runs) (ap (λ (y : Thread). y.job) (sym threads) ∙ job)))
            like in
            record {
              number = t;
              thread = after.thread;
              found = there;
              running = runs;
              job = job;
              some = some;
              left = left;
              alone = subst (Stands 1 (r + 1) (IsBegun after.thread (suc k))) (sym is)
                  (record {
                    serve = now_a;
                    holds = holds_next;
                    fact = record {
                      found = there_a ∙ ap Some (sym threads);
                      none = none;
                      begun = begun;
                      size = few.size ∙ size;
                      names = let more = few.names in omega (arith, more, names);
                    };
                  });
              like = subst (λ (b : Machine). LooksAlike (home_for image) (r + 1) t 0 (after_outcome m t (Some after)).environment.world b.environment.world) (sym is)
                  (subst (λ (w : World). LooksAlike (home_for image) (r + 1) t 0 w (after_outcome a 0 (Some after_a)).environment.world)
                  (world_is image workers budget n m s holds t x found acted after now leaves)
                  (subst (LooksAlike (home_for image) (r + 1) t 0 (reap after.environment.world (roots threads_m (Some now)))) (world_is image 1 budget (r + 1) a sa holds_a 0 xa found_a also after_a now_a leaves_a) reaped));
              channels = subst (λ (b : Machine). channel_view r after.environment.channels ≡ channel_view r b.environment.channels) (sym is) channels;
            }

        -- the request begins
        begins : (x : Thread) → slice_get m.threads t ≡ Some x → x.status ≡ Idle → ltb s.next (length m.environment.channels.requests) ≡ true → s.next ≡ r →
            ((v : ℕ) → view (r + 1) v m.environment.world ≡ view (r + 1) 0 start.environment.world) → channel_view r m.environment.channels ≡ channel_view r start.environment.channels →
            IsServed (after_outcome m t (Some (begin_next t s m.environment))) 1
        begins x found idle some same views channels =
            let within : t < workers = let low = slice_get_within m.threads t x found in omega (arith, low, thread_count_is holds) in
            let home_m : IsHomeOf image m.environment.world t = home_stays holds t within in
            let home_a : IsHomeOf image start.environment.world 0 = home_stays starts 0 (omega arith) in
            let some_a : ltb first.next (length start.environment.channels.requests) ≡ true = let many = request_count_is starts in grind (arith, nat_tests) in
            let entries : (context m.environment.world (home_of t)).entry ≡ (context start.environment.world (home_of 0)).entry = entry_of_home image m.environment.world t home_m ∙ sym (entry_of_home image start.environment.world 0 home_a) in
            let threads : (begin_next t s m.environment).thread ≡ (begin_next 0 first start.environment).thread =
            ap (λ (q : ℕ). serving q s.budget (context m.environment.world (home_of t)).entry) (same ∙ sym next)
            ∙ ap (λ (b : ℕ). serving first.next b (context m.environment.world (home_of t)).entry) (holds.own_budget ∙ sym starts.own_budget)
            ∙ ap (serving first.next first.budget) entries in
            let seen : LooksAlike (home_for image) (r + 1) t 0 m.environment.world start.environment.world = record { some_job = λ none. omega (arith, none); first = holds.jobs; second = starts.jobs; seen = views t } in
            let like : LooksAlike (home_for image) (r + 1) t 0 (begin m.environment.world (home_of t) r) (begin start.environment.world (home_of 0) r) =
            begin-alike (home_for image) r (home_of t) m.environment.world t 0 (home_of 0) start.environment.world (begun_in image m.environment.world t home_m r) (begun_alike image m.environment.world start.environment.world t 0 r home_m home_a) seen in
            joins 0 x (s.next + 1) (begin_next t s m.environment) (record s { next = s.next + 1 }) found (Begins idle some)
            first starts waiting_first.0 (first.next + 1) (begin_next 0 first start.environment) (record first { next = first.next + 1 }) waiting_first.1 (Begins waiting_first.2 some_a)
            threads refl (ap (λ (q : ℕ). q + 1) same) (omega (arith, some_budget, holds.own_budget)) (omega (arith, holds.own_budget)) (ap (λ (q : ℕ). q + 1) next) none_told
            (subst (λ (q : ℕ). LooksAlike (home_for image) (r + 1) t 0 (begin m.environment.world (home_of t) q) (begin start.environment.world (home_of 0) first.next)) (sym same)
            (subst (λ (q : ℕ). LooksAlike (home_for image) (r + 1) t 0 (begin m.environment.world (home_of t) r) (begin start.environment.world (home_of 0) q)) (sym next) like))
            channels size_first (omega (arith, names_first))

        -- the worker of the request acts, here and by itself
        module _ (x : Thread) (found : slice_get m.threads t ≡ Some x) (running : x.status ≡ Running) (job : x.job ≡ r + 1) (k : ℕ) (served : IsServed m k) (enough : IsEnough m x k) where
          number_is : served.number ≡ t
          number_is = holds.placed.once served.number t served.thread x served.found found served.running running (served.job ∙ sym job)

          thread_is : served.thread ≡ x
          thread_is = let both : Some served.thread ≡ Some x = sym served.found ∙ ap (slice_get m.threads) number_is ∙ found in cc

          alone : Machine
          alone = alone_at k

          found_a : slice_get (alone_at k).threads 0 ≡ Some x
          found_a = served.alone.fact.found ∙ ap Some thread_is

          text_is : m.text ≡ (alone_at k).text
          text_is = text_stays holds ∙ sym (text_stays served.alone.holds)

          here : (x.context.job ≡ x.job) × (1 ≤ x.job) × (x.job ≤ s.next)
          here = serving_now holds t x found running

          alike : ActsAlike (home_for image) r t 0 (acted_by m t x) (acted_by (alone_at k) 0 x)
          alike =
              subst (λ (text : List Instr). ActsAlike (home_for image) r t 0 (acted_by m t x) (advance_outcome guest_calls 0 (alone_at k).environment x (advanced text x.regs))) text_is
              (acts_alike (home_for image) r t 0 m.environment (alone_at k).environment x (advanced m.text x.regs) (here.0 ∙ job) job
              (subst (λ (u : ℕ). LooksAlike (home_for image) (r + 1) u 0 m.environment.world (alone_at k).environment.world) number_is served.like) served.channels
              enough.here enough.alone)

          goes : has_ended (acted_by m t x).thread.status ≡ false → IsServed (after_outcome m t (Some (only (Some s) (acted_by m t x)))) (suc k)
          goes going =
              let going_a : has_ended (acted_by (alone_at k) 0 x).thread.status ≡ false = ap (λ (y : Thread). has_ended y.status) (sym alike.thread) ∙ going in
              let runs = (acts image workers budget n m s holds t x found running).going going in
              let some = budget_left m t x runs in
              let left = served.left in
              let was : served.thread.budget ≡ x.budget = ap (λ (y : Thread). y.budget) thread_is in
              let after = budget_after m t x in
              joins k x x.job (only (Some s) (acted_by m t x)) s found (Goes running going) served.alone.serve served.alone.holds x x.job (only (Some served.alone.serve) (acted_by (alone_at k) 0 x)) served.alone.serve found_a (Goes running going_a)
              alike.thread runs ((acts image workers budget n m s holds t x found running).job ∙ job) (omega (arith, some, after)) (omega (arith, left, was, after, some)) served.alone.fact.begun served.alone.fact.none alike.worlds alike.channels served.alone.fact.size served.alone.fact.names

          told_from : (reply : Option Finished) (j target q : ℕ) → target ≡ j + q → Stands 1 (r + 1) (IsTold r reply) (alone_at q) → Stands 1 (r + 1) (IsTold r reply) (alone_at target)
          told_from reply zero target q is stands = let same : q ≡ target = omega (arith, is) in subst (λ (k : ℕ). Stands 1 (r + 1) (IsTold r reply) (alone_at k)) same stands
          told_from reply (suc j) target q is stands =
              let next : suc (j + q) ≡ target = omega (arith, is) in
              subst (λ (k : ℕ). Stands 1 (r + 1) (IsTold r reply) (alone_at k)) next (told_step 1 (r + 1) r reply (alone_at (j + q)) 0 (told_from reply j (j + q) q refl stands))

          ends : has_ended (acted_by m t x).thread.status ≡ true → IsTold r last_told (after_outcome m t (Some (finish t s (acted_by m t x))))
              (with_reply s (finished_by (acted_by m t x).thread (acted_by m t x).environment.channels))
          unfolding reply_of
          ends ended =
              let o = acted_by m t x in
              let p = acted_by (alone_at k) 0 x in
              let sa = served.alone.serve in
              let f = finished_by o.thread o.environment.channels in
              let g = finished_by p.thread p.environment.channels in
              let ended_a : has_ended p.thread.status ≡ true = ap (λ (y : Thread). has_ended y.status) (sym alike.thread) ∙ ended in
              let stands : Stands 1 (r + 1) (IsTold r (Some g)) (alone_at (suc k)) = stands_told 1 (r + 1) r (alone_at k) sa served.alone.holds 0 x found_a running job ended_a in
              let left = served.left in
              let some = served.some in
              let last = told_from (Some g) (budget - k) (budget + 1) (suc k) (omega (arith, left, some)) stands in
              let told : reply_of (alone_at (budget + 1)) r ≡ Some g = ap (λ (serve : Option Serve). in_serve serve r) last.holds.is ∙ last.fact.told in
              let same : f ≡ g = finished_same r o.thread p.thread o.environment.channels p.environment.channels alike.thread (request_is workers n r m s holds t x found running job) alike.channels in
              subst (λ (reply : Option Finished). IsTold r reply (after_outcome m t (Some (finish t s o))) (with_reply s f)) (ap Some same ∙ sym told)
              (finished_told workers n r m s holds t x found running job)

        -- the stage after a step for the request
        served_now : (x : Thread) → slice_get m.threads t ≡ Some x → x.status ≡ Running → x.job ≡ r + 1 → Stage m s → (k : ℕ) × IsServed m k × (r < s.next) × (get_or s.replies r None ≡ None)
        served_now x found running job (Waits low views channels none) = let begun = (serving_now holds t x found running).2 in absurd (omega (arith, low, begun, job))
        served_now x found running job (Served k begun none served) = (k, served, begun, none)
        served_now x found running job (Told is) = absurd (is.nobody t x found running job)

        own : ((x : Thread) → slice_get m.threads t ≡ Some x → x.status ≡ Running → x.job ≡ r + 1 → (k : ℕ) → IsServed m k → IsEnough m x k) → (x : Thread) → slice_get m.threads t ≡ Some x → (acted : ℕ) (after : AfterStep) (now : Serve) → How m s t x acted after now → acted ≡ r + 1 → Stage m s →
            Stage (after_outcome m t (Some after)) now
        own enough x found _ _ _ (Finishes running ended) job stage =
            let now = served_now x found running job stage in Told (ends x found running job now.0 now.1 (enough x found running job now.0 now.1) ended)
        own enough x found _ _ _ (Goes running going) job stage =
            let now = served_now x found running job stage in Served (suc now.0) now.2 now.3 (goes x found running job now.0 now.1 (enough x found running job now.0 now.1) going)
        own enough x found _ _ _ (Begins idle some) same (Waits low views channels none) =
            Served 1 (omega (arith, same)) none (begins x found idle some (omega (arith, same)) views channels)
        own enough x found _ _ _ (Begins idle some) same (Served k begun none served) = absurd (omega (arith, same, begun))
        own enough x found _ _ _ (Begins idle some) same (Told is) = let begun = is.begun in absurd (omega (arith, same, begun))
        own enough x found _ _ _ (Ends idle none) same stage = absurd (omega (arith, same))

        pub stage_made : ((x : Thread) → slice_get m.threads t ≡ Some x → x.status ≡ Running → x.job ≡ r + 1 → (k : ℕ) → IsServed m k → IsEnough m x k) → (made : Made m s t) → Stage m s →
            Stage (after_outcome m t (Some made.after)) made.now
        stage_made enough made stage =
            elim (cases_eq made.acted (r + 1)) [
              | inl same ↦ own enough made.thread made.found made.acted made.after made.now made.how same stage
              | inr apart ↦ stage_others made apart stage
            ]

      -- a reply that is recorded is what the request is told by itself
      pub told_alone : (workers n : ℕ) (m : Machine) (told : Finished) → Stands workers n Stage m → reply_of m r ≡ Some told → last_told ≡ Some told
      unfolding reply_of
      told_alone workers n m told stands is = by_stage stands.fact (ap (λ (serve : Option Serve). in_serve serve r) (sym stands.holds.is) ∙ is)
        where
          by_stage : Stage m stands.serve → get_or stands.serve.replies r None ≡ Some told → last_told ≡ Some told
          by_stage (Waits low views channels none) some = let clash : None ≡ Some told = sym none ∙ some in cc
          by_stage (Served k begun none served) some = let clash : None ≡ Some told = sym none ∙ some in cc
          by_stage (Told is) some = sym is.told ∙ some
