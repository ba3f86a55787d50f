-- Each step under traps leaves contexts as it should.
use Rattle.std.proofs.Common.{◌≡◌, ◌≢◌, ◌⊎◌, inl, inr, ℕ, ◌-◌, zero, suc, true, Option, None, Some, List, [], ◌∷◌, ◌++◌, refl, ap, sym, subst, ◌∙◌}
use Rattle.std.specs.Prelude.{slice_get, slice_set}
use Rattle.std.specs.FinMap as fm
use Rattle.confinement.proofs.Confining.{Leaves, confined, empty_slot, leaves_reaped, ready_thread}
use Rattle.confinement.proofs.Stages.{Allowance, none, store_on}
use Rattle.confinement.specs.Confined.{IsConfined}
use Rattle.confinement.specs.May.{regs_at, world_of}
use Rattle.confinement.specs.One.{IsOneValue}
use Rattle.guest_machine.specs.Advances.{advanced}
use Rattle.kernel_core.proofs.Others.{found_set}
use Rattle.kernel_core.specs.Machine.{Environment, Machine, Serve}
use Rattle.kernel_core.specs.Refused.{advanced_thread}
use Rattle.kernel_core.specs.Start.{Inputs}
use Rattle.kernel_core.specs.Step.{AfterStep, Calls, Outcome, advance_outcome, after_outcome, after_thread, contexts_of, counted, guest_calls, next_outcome, only, roots, step, step_by, thread_outcome, unchanged, with_status, with_world}
use Rattle.kernel_core.specs.declared.thread.Thread.{Thread}
use Rattle.lwc_base.proofs.Puts.{takes-after_store}
use Rattle.lwc_base.proofs.Reaped.{reap-reaped}
use Rattle.lwc_base.proofs.Rights.{store-right}
use Rattle.lwc_base.proofs.StillReaped.{reaped-after_store}
use Rattle.lwc_base.proofs.Stored.{is_done}
use Rattle.lwc_base.proofs.Slots.{lowest_is_empty_slot}
use Rattle.lwc_base.specs.Cells.{slot_at, value_at}
use Rattle.lwc_base.specs.Rights.{right_at}
use Rattle.lwc_base.specs.Slots.{lowest_empty}
use Rattle.lwc_base.specs.Store.{Done, Piece, store}
use Rattle.lwc_base.specs.Life as life
use Rattle.lwc_base.specs.Life.{IsReaped}
use Rattle.lwc_base.specs.World.{World, context, is_live}
use Rattle.lwc_types.specs.declared.key.Key.TheVariants.{Page}
use Rattle.lwc_types.specs.declared.fault.ThreadStatus.{ThreadStatus}
use Rattle.lwc_types.specs.declared.fault.ThreadStatus.TheVariants as status
use Rattle.lwc_types.specs.declared.name.Name.{Name}
use Rattle.lwc_monitor.proofs.Keeping.{IsKept}
use Rattle.lwc_monitor.proofs.Guarding.{all-kept, trapped-live}
use Rattle.lwc_monitor.proofs.OwnPages.{StaysOwn, store_stays}
use Rattle.lwc_monitor.specs.Calls.{calls_under, traps_after_call}
use Rattle.lwc_monitor.specs.Steps.{Monitored, call_by, call_next, call_of, monitored_step, traps_after}
use Rattle.lwc_switch.specs.Switch.{switched}
use Rattle.lwc_monitor.proofs.TrappedArriving.{enters, registers}
use Rattle.lwc_monitor.proofs.TrappedCourses.{Arrives, Course, Goes, Kernel, OneMore, Rests, Stays, Stores, TrappedCourse, next_course, trapped_course}
use Rattle.lwc_monitor.specs.Contexts.{ChangesThread, GoesTo, GoesToIt, IsIn, LeavesAllBut, LeavesButPages, LeavesContexts, LeavesThreads, OfATrap, OfTheKernel, OfTheThread, StaysThere, ToTheMonitor}
use Rattle.lwc_monitor.specs.Traps.{Traps}

-- a thread of the same context leaves the contexts of threads
same_contexts : (threads : List Thread) (t : ℕ) (x y : Thread) → slice_get threads t ≡ Some x → y.context ≡ x.context → contexts_of (slice_set threads t y) ≡ contexts_of threads
same_contexts [] t x y found is = cc
same_contexts (z ∷ zs) zero x y found is = let same : z ≡ x = cc in ap (λ c. c ∷ contexts_of zs) (is ∙ ap (λ (u : Thread). u.context) (sym same))
same_contexts (z ∷ zs) (suc t) x y found is = ap (λ l. z.context ∷ l) (same_contexts zs t x y found is)

-- and each other thread
set_others : (threads : List Thread) (t u : ℕ) (y : Thread) → t ≢ u → slice_get (slice_set threads t y) u ≡ slice_get threads u
set_others [] t u y other = refl
set_others (z ∷ zs) zero zero y other = absurd (other refl)
set_others (z ∷ zs) zero (suc u) y other = refl
set_others (z ∷ zs) (suc t) zero y other = refl
set_others (z ∷ zs) (suc t) (suc u) y other = set_others zs t u y (λ same. other (ap suc same))

module _ (inputs : Inputs) (steps : ℕ) (s : Monitored) (t : ℕ) (kept : IsKept inputs steps s) where
  abbrev m : Machine
  m = s.machine

  abbrev w : World
  w = world_of m

  abbrev calls : Calls
  calls = calls_under s.traps

  -- a machine with those of these traps whose contexts live
  abbrev trapped_in : Traps → Machine → Monitored
  trapped_in traps k = record { machine = k; traps = fm.retain_keys traps (is_live (world_of k)) }

  kernel : (k : Machine) → k ≡ step m t → LeavesContexts s (trapped_in s.traps k) t
  kernel k is = OfTheKernel is (subst (λ (n : Machine). IsConfined m t n) (sym is) (confined inputs steps m t kept.ready)) refl

  left_others : (made : Option AfterStep) → LeavesThreads m (after_outcome m t made) t
  left_others None u other = refl
  left_others (Some after) u other = set_others m.threads t u after.thread other

  module _ (x : Thread) (found : slice_get m.threads t ≡ Some x) where
    abbrev by : Calls → ThreadStatus → Machine
    by table st = after_outcome m t (thread_outcome table t m.environment None m.text x st)

    abbrev outcome : Calls → Outcome
    outcome table = next_outcome table t m.environment (advanced_thread m x) (advanced m.text x.regs).next

    -- a running thread's outcome
    abbrev left : Outcome → Machine
    left o = after_outcome m t (Some (only None (counted (x.budget - 1) o)))

    is_left : (table : Calls) → by table status.Running ≡ left (outcome table)
    unfolding advance_outcome
    is_left table = refl

    stays_world : (o : Outcome) → o.environment ≡ m.environment → o.thread.context ≡ x.context → (left o).environment ≡ m.environment
    stays_world o same here =
        let names : roots (slice_set m.threads t (counted (x.budget - 1) o).thread) None ≡ roots m.threads m.serve =
        ap (λ l. l ++ []) (same_contexts m.threads t x (counted (x.budget - 1) o).thread found here) ∙ ap (roots m.threads) (sym kept.run) in
        ap (λ (e : Environment). with_world e (life.reap e.world (roots (slice_set m.threads t (counted (x.budget - 1) o).thread) None))) same
        ∙ (ap (λ l. with_world m.environment (life.reap w l)) names
        ∙ ap (with_world m.environment) (reap-reaped w (roots m.threads m.serve) kept.ready.reaped))

    others : (o : Outcome) → LeavesThreads m (left o) t
    others o = left_others (Some (only None (counted (x.budget - 1) o)))

    x_lives : is_live w x.context ≡ true
    x_lives = (ready_thread inputs steps t m x kept.ready found).live

    abbrev after_call : Option ℕ → Traps
    after_call call = traps_after_call s.traps w (advanced_thread m x) call

    -- where the world stays, so does each trap
    kept_traps : (call : Option ℕ) (k : Machine) → k.environment ≡ m.environment → fm.retain_keys (after_call call) (is_live (world_of k)) ≡ after_call call
    kept_traps call k same =
        all-kept (after_call call) (is_live (world_of k))
        (λ d n found. ap (λ (e : Environment). is_live e.world d) same ∙ trapped-live s.traps w (advanced_thread m x) call kept.guarded.live kept.ready.named x_lives d n found)

    -- the thread arrives in a monitor
    went : (o : Outcome) (d : Name) (slot : ℕ) → is_live w d ≡ true → lowest_empty w d ≡ Some slot → o.environment ≡ with_world m.environment (switched w x.context t (regs_at m x) d slot) → o.thread.context ≡ d →
        GoesTo m (left o) t x d
    went o d slot live lowest made arrived =
        let names : List Name = roots (slice_set m.threads t (counted (x.budget - 1) o).thread) None in
        let v : World = switched w x.context t (regs_at m x) d slot in
        let there = lowest_is_empty_slot w d slot lowest in
        let empty = empty_slot inputs steps m t kept.ready (slot_at w d slot) there.1 in
        let reached : Leaves v (world_of (left o)) = subst (λ (e : Environment). Leaves v (life.reap e.world names)) (sym made) (leaves_reaped v names) in
        record {
          others = others o;
          arrives = ((counted (x.budget - 1) o).thread, found_set m.threads t x (counted (x.budget - 1) o).thread found, arrived);
          enters = enters m (left o) t x (regs_at m x) d slot kept.ready.sound live there.0 lowest empty reached;
          registers = registers m (left o) t x (regs_at m x) d slot kept.ready.sound live there.0 lowest empty reached;
          channels = ap (λ (e : Environment). e.channels) made;
        }

    stays : (made : AfterStep) → made.thread.context ≡ x.context → (y : Thread) → slice_get m.threads t ≡ Some y → IsIn (after_outcome m t (Some made)) t y.context
    stays made here y is = let same : x ≡ y = cc in (made.thread, found_set m.threads t x made.thread found, subst (λ (z : Thread). made.thread.context ≡ z.context) same here)

    changes_thread : (o : Outcome) → o.environment ≡ m.environment → o.thread.context ≡ x.context → ChangesThread m (left o) t
    changes_thread o same here = record { others = others o; stays = stays (only None (counted (x.budget - 1) o)) here; environment = stays_world o same here }

    by_course : (o k : Outcome) (call : Option ℕ) → call_of m x ≡ call → Course s.traps t m.environment (advanced_thread m x) call o k (after_call call) → left k ≡ step m t →
        LeavesContexts s (trapped_in (after_call call) (left o)) t
    by_course o k call comes (Kernel same stay) is = subst (λ (traps : Traps). LeavesContexts s (trapped_in traps (left o)) t) (sym stay) (kernel (left o) (ap left same ∙ is))
    by_course o k call comes (Stays same here stay) is = OfTheThread (changes_thread o same here) (kept_traps call (left o) (stays_world o same here) ∙ stay)
    by_course o k call comes (OneMore d traps accepted named same here new more) is =
        OfATrap x d found (comes ∙ traps) (changes_thread o same here) (record { accepted = accepted; named = named }) new (kept_traps call (left o) (stays_world o same here) ∙ more)
    by_course o k call comes (Goes d slot trapped live lowest made arrived stay) is =
        ToTheMonitor x d found trapped (went o d slot live lowest made arrived) (ap (λ (traps : Traps). fm.retain_keys traps (is_live (world_of (left o)))) stay)

    by_status : (st : ThreadStatus) → x.status ≡ st → by guest_calls st ≡ step m t → LeavesContexts s (trapped_in (after_call (call_by m.text x st)) (by calls st)) t
    by_status status.Running runs is =
        let n = (advanced m.text x.regs).next in
        subst (λ (k : Machine). LeavesContexts s (trapped_in (after_call (call_next n)) k) t) (sym (is_left calls))
        (by_course (outcome calls) (outcome guest_calls) (call_next n) (ap (call_by m.text x) runs) (next_course s.traps t m.environment (advanced_thread m x) n) (sym (is_left guest_calls) ∙ is))
    by_status status.Idle _ is = kernel _ is
    by_status (status.Done code) _ is = kernel _ is
    by_status (status.Faulted f) _ is = kernel _ is

    with_serve : (table : Calls) → step_by table m t ≡ by table x.status
    unfolding step_by
    with_serve table = ap (after_thread table m t) found ∙ ap (λ (serve : Option Serve). after_outcome m t (thread_outcome table t m.environment serve m.text x x.status)) kept.run

    pub some_thread : LeavesContexts s (trapped_in (traps_after s.traps m (Some x)) (step_by calls m t)) t
    some_thread = subst (λ (k : Machine). LeavesContexts s (trapped_in (traps_after s.traps m (Some x)) k) t) (sym (with_serve calls)) (by_status x.status refl (sym (with_serve guest_calls)))

    -- a thread in a trapped context
    module _ (d : Name) (trapped : fm.get s.traps x.context ≡ Some d) where
      stays_all : (after : Machine) → after.environment ≡ m.environment → LeavesButPages m after x.context
      stays_all after same = record {
        live = λ e. ap (λ (k : Environment). is_live k.world e) same;
        cells = λ e k lives key. inl (ap (λ (u : Environment). (context u.world e).cell k) same);
        rights = λ e p. ap (λ (u : Environment). right_at u.world e p) same;
        values = λ e k lives key. inl (ap (λ (u : Environment). value_at u.world e k) same);
        entries = λ e lives. ap (λ (u : Environment). (context u.world e).entry) same;
        saved = λ e s lives. ap (λ (u : Environment). (context u.world e).saved s) same;
        channels = ap (λ (u : Environment). u.channels) same;
      }

      -- what a store in the context may change
      abbrev pages_alone : Allowance
      pages_alone = record { change = λ e k. (e ≡ x.context) × (p : ℕ) × (k ≡ Page p); saving = λ e s. ⊥; capability = λ d cap. ⊥ }

      stores_pages : (piece : Piece) (v : World) → store w x.context x.job piece ≡ Done v → (after : Machine) → after.environment ≡ with_world m.environment v → LeavesButPages m after x.context
      stores_pages piece v is after made =
          let confines = (store_on pages_alone w kept.ready.sound.groups x.context x.job piece v (none pages_alone w kept.ready.sound.groups) x_lives (λ p key. (refl, p, refl)) is).confines in
          let done = is_done w x.context x.job piece v is in
          let world : world_of after ≡ v = ap (λ (u : Environment). u.world) made in
          let at : (P : World → Type 0) → P v → P (world_of after) = λ P here. subst P (sym world) here in
          record {
            live = λ e. ap (λ (u : World). is_live u e) (world ∙ done.after) ∙ (takes-after_store w x.context x.job piece).live e;
            cells = λ e k lives key. at (λ u. StaysOwn x.context w u e k) (store_stays x.context e k w x.job piece v x_lives is);
            rights = λ e p. at (λ u. right_at u e p ≡ right_at w e p) (store-right w v x.context x.job piece is e p);
            values = λ e k lives key. at (λ u. (value_at u e k ≡ value_at w e k) ⊎ (IsOneValue w x.context e k × (p : ℕ) × (k ≡ Page p))) (elim (confines.values e k lives key) [
              | inl same ↦ inl same
              | inr seen ↦ inr (subst (λ (n : Name). IsOneValue w n e k) seen.1.0 seen.2, seen.1.1, seen.1.2)
            ]);
            entries = λ e lives. at (λ u. (context u e).entry ≡ (context w e).entry) (confines.entries e lives);
            saved = λ e s lives. at (λ u. (context u e).saved s ≡ (context w e).saved s) (elim (confines.saved e s lives) [ inl same ↦ same | inr never ↦ absurd never ]);
            channels = ap (λ (u : Environment). u.channels) made;
          }

      -- a store leaves nothing to drop
      stored_left : (o : Outcome) (piece : Piece) (v : World) → store w x.context x.job piece ≡ Done v → o.environment ≡ with_world m.environment v → o.thread.context ≡ x.context →
          (left o).environment ≡ with_world m.environment v
      stored_left o piece v is made here =
          let names : roots (slice_set m.threads t (counted (x.budget - 1) o).thread) None ≡ roots m.threads m.serve =
          ap (λ l. l ++ []) (same_contexts m.threads t x (counted (x.budget - 1) o).thread found here) ∙ ap (roots m.threads) (sym kept.run) in
          let reaped : IsReaped v (roots m.threads m.serve) =
          subst (λ (u : World). IsReaped u (roots m.threads m.serve)) (sym (is_done w x.context x.job piece v is).after) (reaped-after_store w (roots m.threads m.serve) x.context x.job piece kept.ready.reaped) in
          ap (λ (e : Environment). with_world e (life.reap e.world (roots (slice_set m.threads t (counted (x.budget - 1) o).thread) None))) made
          ∙ (ap (λ l. with_world m.environment (life.reap v l)) names ∙ ap (with_world m.environment) (reap-reaped v (roots m.threads m.serve) reaped))

      by_trapped : (o : Outcome) → TrappedCourse t m.environment (advanced_thread m x) d o → LeavesAllBut s (left o) t x d
      by_trapped o (Rests same here) = StaysThere (others o) (stays (only None (counted (x.budget - 1) o)) here x found) (stays_all (left o) (stays_world o same here))
      by_trapped o (Stores piece v is made here) = StaysThere (others o) (stays (only None (counted (x.budget - 1) o)) here x found) (stores_pages piece v is (left o) (stored_left o piece v is made here))
      by_trapped o (Arrives slot live lowest made arrived) = GoesToIt (went o d slot live lowest made arrived)

      -- a thread that is idle ends, as a run serves nothing
      idle_rests : (left_by : AfterStep) → left_by ≡ only None (unchanged m.environment (with_status x (status.Done 0))) → (after_outcome m t (Some left_by)).environment ≡ m.environment
      idle_rests left_by is =
          let names : roots (slice_set m.threads t (with_status x (status.Done 0))) None ≡ roots m.threads m.serve =
          ap (λ l. l ++ []) (same_contexts m.threads t x (with_status x (status.Done 0)) found refl) ∙ ap (roots m.threads) (sym kept.run) in
          ap (λ a. (after_outcome m t (Some a)).environment) is
          ∙ (ap (λ l. with_world m.environment (life.reap w l)) names ∙ ap (with_world m.environment) (reap-reaped w (roots m.threads m.serve) kept.ready.reaped))

      trapped_status : (st : ThreadStatus) → LeavesAllBut s (by calls st) t x d
      trapped_status status.Running =
          subst (λ (k : Machine). LeavesAllBut s k t x d) (sym (is_left calls))
          (by_trapped (outcome calls) (trapped_course s.traps t m.environment (advanced_thread m x) d trapped (advanced m.text x.regs).next))
      trapped_status status.Idle = StaysThere (left_others (thread_outcome calls t m.environment None m.text x status.Idle)) (stays (only None (unchanged m.environment (with_status x (status.Done 0)))) refl x found) (stays_all _ (idle_rests _ refl))
      trapped_status (status.Done code) = StaysThere (left_others None) (x, found, refl) (stays_all _ refl)
      trapped_status (status.Faulted f) = StaysThere (left_others None) (x, found, refl) (stays_all _ refl)

      trapped_leaves : LeavesAllBut s (step_by calls m t) t x d
      trapped_leaves = subst (λ (k : Machine). LeavesAllBut s k t x d) (sym (with_serve calls)) (trapped_status x.status)

      pub trapped_step : LeavesAllBut s (monitored_step s t).machine t x d
      unfolding monitored_step
      trapped_step = trapped_leaves

  no_thread : slice_get m.threads t ≡ None → LeavesContexts s (trapped_in s.traps (step_by calls m t)) t
  unfolding step_by
  no_thread none = kernel _ (ap (after_thread calls m t) none ∙ sym (ap (after_thread guest_calls m t) none))

  by_thread : (o : Option Thread) → slice_get m.threads t ≡ o → LeavesContexts s (trapped_in (traps_after s.traps m o) (step_by calls m t)) t
  by_thread None none = no_thread none
  by_thread (Some x) found = some_thread x found

  pub leaves_contexts : LeavesContexts s (monitored_step s t) t
  unfolding monitored_step
  leaves_contexts = by_thread (slice_get m.threads t) refl
