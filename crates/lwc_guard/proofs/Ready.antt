-- A step under guards keeps a machine ready.
use Rattle.std.proofs.Common.{◌≡◌, ℕ, ◌+◌, ◌-◌, ◌≤◌, ◌<◌, refl, sym, ap, subst, ◌∙◌, Bool, true, false, cond, eqb, ◌&&◌, Option, Some, None, List, [], ◌∷◌, length, get_or, arith}
use Rattle.std.specs.Prelude.{All, IfSome, slice_get, slice_index, slice_set}
use Rattle.std.specs.Option.{option_and_then, option_map}
use Rattle.std.specs.FinMap as fm
use Rattle.std.proofs.lemmas.List.{length-set}
use Rattle.std.proofs.lemmas.List.Elements.{All-append, All-nil, All-set, All-weaker}
use Rattle.guest_isa.specs.declared.instr.Instr.{Instr}
use Rattle.guest_isa.specs.declared.op.Op.TheVariants.{Sys}
use Rattle.guest_machine.specs.Advances.{advanced}
use Rattle.guest_machine.specs.declared.progress.Advance.{Advance}
use Rattle.guest_machine.specs.declared.progress.Next.{Next}
use Rattle.guest_machine.specs.declared.progress.Next.TheVariants as next
use Rattle.kernel_core.proofs.Afters.{IsAfter, idle_ends, running_on}
use Rattle.kernel_core.proofs.Outcomes.{Acts, AllAct, IsStep, acts_chosen, acts_regs, acts_unchanged, step_running}
use Rattle.kernel_core.proofs.ReadyRuns.{ready_thread, well_ready, while_running}
use Rattle.kernel_core.proofs.Reaping.{each_root, live_roots, root_kept}
use Rattle.kernel_core.proofs.Worlds.{Grows, RisesBy, grows_more, grows_switched, well_switched}
use Rattle.kernel_core.specs.Machine.{Environment, Machine, Serve}
use Rattle.kernel_core.specs.Ready.{IsCounted, IsReady, IsReadyServe, IsReadyThread, IsRunnable, jobs_of, most_counted}
use Rattle.kernel_core.specs.Start.{Inputs}
use Rattle.kernel_core.specs.Step.{AfterStep, Calls, Outcome, advance_outcome, after_outcome, contexts_of, counted, faulted, next_outcome, only, roots, shared_outcome, thread_outcome, unchanged, with_regs, with_result, with_status}
use Rattle.kernel_core.specs.declared.calling.TheConstants.{LW_SWITCH}
use Rattle.kernel_core.specs.declared.thread.Thread.{Thread}
use Rattle.guest_call.proofs.Targets.{target_links}
use Rattle.guest_call.specs.Guest.{descriptor_for, link_of, with_answer}
use Rattle.lwc_base.proofs.Facts.{counts}
use Rattle.lwc_base.proofs.InRange.{files-reap, files-save}
use Rattle.lwc_base.proofs.NamedContexts.{contexts-reap, contexts-save}
use Rattle.lwc_base.proofs.Reaped.{reap-stays, reaped-reap}
use Rattle.lwc_base.proofs.Saving.{saves}
use Rattle.lwc_base.proofs.Sound.{sound-reap, sound-save}
use Rattle.lwc_base.specs.Capabilities.{empty_cap}
use Rattle.lwc_base.specs.Facts.{KeepsNames}
use Rattle.lwc_base.specs.Life.{HasItsContexts, is_among, reap}
use Rattle.lwc_base.specs.Refusals.{first_refusal}
use Rattle.lwc_base.specs.Saved.{save}
use Rattle.lwc_base.specs.Slots.{lowest_empty}
use Rattle.lwc_base.specs.World.{World, is_live}
use Rattle.lwc_base.specs.declared.descriptor.Cap.{Cap}
use Rattle.lwc_base.specs.declared.descriptor.Descriptor.TheVariants.{Ctx}
use Rattle.lwc_guard.specs.Calls.{calls_guarded, fuel_rows, held_by, is_trapped_by, switching_up, taken_up, taking_up}
use Rattle.lwc_guard.specs.GivingBack.{Course, cause_of, detail_of, fuelled_step, given_back, guarded_course, made_or_returned, returned, unfuelled, way_back}
use Rattle.lwc_guard.specs.Guards.{Guards, holds, lowered, new_guard}
use Rattle.lwc_guard.specs.Steps.{Left, left_by, left_of, left_running}
use Rattle.lwc_guard.specs.declared.guard.Guard.{Guard}
use Rattle.lwc_guard.specs.declared.numbers.TheConstants.{LW_FUEL, NO_FUEL}
use Rattle.lwc_monitor.proofs.Tables.{acts_under}
use Rattle.lwc_monitor.specs.Calls.{calls_under, trapping}
use Rattle.lwc_monitor.specs.Traps.{Traps, is_trapped, named}
use Rattle.lwc_monitor.specs.declared.trapping.TrapRefusal.{TrapRefusal}
use Rattle.lwc_switch.specs.Switch.{left}
use Rattle.lwc_syscall.specs.Changes.{IsWell}
use Rattle.lwc_types.specs.declared.counters.Counters.{Counters}
use Rattle.lwc_types.specs.declared.fault.Fault.TheVariants as fault
use Rattle.lwc_types.specs.declared.fault.ThreadStatus.{ThreadStatus}
use Rattle.lwc_types.specs.declared.fault.ThreadStatus.TheVariants as status
use Rattle.lwc_types.specs.declared.name.Name.{Name}
use Rattle.lwc_types.specs.declared.regs.Regs.{Regs}

-- registers that are kept make no name
grows_saved : (job : ℕ) (w : World) (c : Name) (t : ℕ) (regs : Regs) → Grows job 2 w (save w c t regs)
grows_saved job w c t regs =
    let v : World = save w c t regs in
    let names : KeepsNames w v = (saves w c t regs).names in
    record {
      live = λ d is. names.live d ∙ is;
      size = names.size;
      names = omega (arith, (counts.same_contexts w v 0 names.live).1, (counts.same_groups w v 0 names.groups).1);
      counts = λ j. subst (λ (next : ℕ → Counters). RisesBy 2 (w.next j) (next j)) (sym names.next) (record { contexts = omega arith; groups = omega arith; tags = omega arith });
      limits = λ jobs there some limits. record {
        contexts = λ d is. limits.contexts d (sym (names.live d) ∙ is);
        groups = λ g is. limits.groups g (sym (names.groups g) ∙ is);
        homes = omega (arith, (counts.same_contexts w v 0 names.live).0, limits.homes);
        few_contexts = λ j. omega (arith, (counts.same_contexts w v j names.live).0, limits.few_contexts j);
        few_groups = λ j. omega (arith, (counts.same_groups w v j names.groups).0, limits.few_groups j);
      };
    }

-- a context that a slot names lives
named-lives : (w : World) (c d : Name) (regs : Regs) → HasItsContexts w → is_live w c ≡ true → named w c regs ≡ Some d → is_live w d ≡ true
named-lives w c d regs whole here is = by (link_of (descriptor_for w c (slice_index regs.r 1))) refl is
  where
    by : (o : Option (Name × Cap)) → link_of (descriptor_for w c (slice_index regs.r 1)) ≡ o → option_map (λ (l : Name × Cap). l.0) o ≡ Some d → is_live w d ≡ true
    by None found got = cc
    by (Some l) found got = let one : l.0 ≡ d = cc in subst (λ (n : Name). is_live w n ≡ true) one (whole.live c l.0 here (target_links w c (slice_index regs.r 1) l found))

-- the context where a thread is taken up is the one that the slot names
pub taken-named : (traps : Traps) (guards : Guards) (t : ℕ) (w : World) (c d : Name) (regs : Regs) → taken_up traps guards t w c regs ≡ Some d → (named w c regs ≡ Some d) × (is_trapped_by traps c d ≡ true)
unfolding taken_up
taken-named traps guards t w c d regs is = by (named w c regs) is
  where
    by_held : (e : Name) (a b : Bool) → is_trapped_by traps c e ≡ a → cond (a && b) (Some e) None ≡ Some d → (Some e ≡ Some d) × (is_trapped_by traps c d ≡ true)
    by_held e true true trapped got = let one : e ≡ d = cc in (got, subst (λ (n : Name). is_trapped_by traps c n ≡ true) one trapped)
    by_held e true false trapped got = cc
    by_held e false b trapped got = cc

    by : (o : Option Name) → option_and_then (held_by traps guards t c) o ≡ Some d → (o ≡ Some d) × (is_trapped_by traps c d ≡ true)
    by None got = cc
    by (Some e) got = by_held e (is_trapped_by traps c e) (holds guards e t) refl got

-- the monitor that a thread is given back to lives, and its slot is the lowest empty one
pub way-leads : (traps : Traps) (w : World) (c m : Name) (slot : ℕ) → way_back traps w c ≡ Some (m, slot) → (is_live w m ≡ true) × (lowest_empty w m ≡ Some slot) × (fm.get traps c ≡ Some m)
unfolding way_back
way-leads traps w c m slot is = by (fm.get traps c) is
  where
    by_live : (n : Name) (b : Bool) → is_live w n ≡ b → (o : Option ℕ) → lowest_empty w n ≡ o → cond b (option_map {U = Name × ℕ} (λ (k : ℕ). (n, k)) o) None ≡ Some (m, slot) →
        (is_live w m ≡ true) × (lowest_empty w m ≡ Some slot) × (Some n ≡ Some m)
    by_live n false dead o lowest got = cc
    by_live n true live None lowest got = cc
    by_live n true live (Some k) lowest got =
        let pair : (n, k) ≡ (m, slot) = cc in
        let one : n ≡ m = ap (λ (p : Name × ℕ). p.0) pair in
        (subst (λ (z : Name). is_live w z ≡ true) one live, ap (lowest_empty w) (sym one) ∙ lowest ∙ ap (λ (p : Name × ℕ). Some p.1) pair, ap Some one)

    by : (o : Option Name) → option_and_then (λ (n : Name). cond (is_live w n) (option_map {U = Name × ℕ} (λ (k : ℕ). (n, k)) (lowest_empty w n)) None) o ≡ Some (m, slot) → (is_live w m ≡ true) × (lowest_empty w m ≡ Some slot) × (o ≡ Some m)
    by None got = cc
    by (Some n) got = by_live n (is_live w n) refl (lowest_empty w n) refl got

-- an act that gives a thread back, or ends it
abbrev returning : Traps → ℕ → Option ℕ → Calls
returning traps cause detail number t e x = (returned (way_back traps e.world x.context) cause detail t e x new_guard (unchanged e (faulted x fault.Budget))).outcome

acts_returned : (traps : Traps) (cause : ℕ) (detail : Option ℕ) (t : ℕ) (e : Environment) (x : Thread) (o : Option (Name × ℕ)) → way_back traps e.world x.context ≡ o →
    Acts e x (returned o cause detail t e x new_guard (unchanged e (faulted x fault.Budget))).outcome
acts_returned traps cause detail t e x None is = acts_unchanged e x (faulted x fault.Budget) refl refl (λ more n. omega arith)
acts_returned traps cause detail t e x (Some (m, slot)) is = record {
  job = refl;
  left = λ more n. omega arith;
  ends = λ well live.
      let grows = grows_switched x.job e.world x.context m t x.regs slot (Ctx x.context empty_cap) in
      record {
        changes = record {
          grows = grows_more x.job 0 2 e.world _ (omega arith) grows;
          well = well_switched e.world x.context m t x.regs slot empty_cap e.channels live well;
          inputs = (refl, refl);
        };
        live = grows.live m (way-leads traps e.world x.context m slot is).0;
      };
}

returning_acts : (traps : Traps) (cause : ℕ) (detail : Option ℕ) → AllAct (returning traps cause detail)
returning_acts traps cause detail number t e x = acts_returned traps cause detail t e x (way_back traps e.world x.context) refl

-- taking a thread up acts
acts_taking : (t : ℕ) (e : Environment) (x : Thread) (d : Name) → named e.world x.context x.regs ≡ Some d → Acts e x (taking_up t e x d)
acts_taking t e x d is = record {
  job = refl;
  left = λ more n. omega arith;
  ends = λ well live.
      let regs = with_answer x.regs 0 in
      let grows = grows_saved x.job e.world x.context t regs in
      record {
        changes = record {
          grows = grows;
          well = record { sound = sound-save e.world x.context t regs well.sound; named = contexts-save e.world x.context t regs well.named; files = files-save e.channels e.world x.context t regs well.files };
          inputs = (refl, refl);
        };
        live = grows.live d (named-lives e.world x.context d x.regs well.named live is);
      };
}

acts_answer : (e : Environment) (x : Thread) (first : Option TrapRefusal) → Acts e x (unchanged e (trapping x first))
acts_answer e x None = acts_regs e x (with_result x.regs 0 0)
acts_answer e x (Some refusal) = acts_regs e x (with_result x.regs 0 _)

acts_switching : (traps : Traps) (guards : Guards) (number t : ℕ) (e : Environment) (x : Thread) (o : Option Name) → taken_up traps guards t e.world x.context x.regs ≡ o →
    Acts e x (switching_up traps o number t e x)
acts_switching traps guards number t e x None is = acts_under traps number t e x
acts_switching traps guards number t e x (Some d) is = acts_taking t e x d (taken-named traps guards t e.world x.context d x.regs is).0

-- each call under guards acts
pub acts_guarded : (traps : Traps) (guards : Guards) → AllAct (calls_guarded traps guards)
unfolding calls_guarded
acts_guarded traps guards number t e x =
    acts_chosen e x _ (unchanged e (trapping x (first_refusal (fuel_rows traps e.world x.context x.regs)))) _ (acts_answer e x _)
    (acts_chosen e x (eqb number LW_SWITCH) _ _ (acts_switching traps guards number t e x (taken_up traps guards t e.world x.context x.regs) refl) (acts_under traps number t e x))

-- a step whose act is a call's
abbrev sys : Instr
sys = record { op = Sys; rd = 0; ra = 0; rb = 0; imm = 0 }

stepped_by : (calls : Calls) → AllAct calls → (t : ℕ) (e : Environment) (x : Thread) (regs : Regs) → IsWell e.world e.channels → x.status ≡ status.Running → IsReadyThread e.world x →
    IsStep e x (counted (x.budget - 1) (calls 0 t e (with_regs x regs)))
unfolding advance_outcome next_outcome shared_outcome
stepped_by calls act t e x regs well running here = step_running calls act t e x (record { before = x.regs; after = regs; next = next.Shared sys }) well running here

module _ (traps : Traps) (guards : Guards) (t : ℕ) (e : Environment) (x : Thread) (advance : Advance) (well : IsWell e.world e.channels) (running : x.status ≡ status.Running) (here : IsReadyThread e.world x) where
  abbrev caller : Thread
  caller = with_regs x advance.after

  under : IsStep e x (counted (x.budget - 1) (next_outcome (calls_under traps) t e caller advance.next))
  unfolding advance_outcome
  under = step_running (calls_under traps) (acts_under traps) t e x advance well running here

  back : (cause : ℕ) (detail : Option ℕ) (regs : Regs) (m : Name) (slot : ℕ) → way_back traps e.world x.context ≡ Some (m, slot) → IsStep e x (counted (x.budget - 1) (given_back cause detail t e (with_regs x regs) m slot))
  back cause detail regs m slot is =
      subst (λ (o : Option (Name × ℕ)). IsStep e x (counted (x.budget - 1) (returned o cause detail t e (with_regs x regs) new_guard (unchanged e (faulted (with_regs x regs) fault.Budget))).outcome)) is
      (stepped_by (returning traps cause detail) (returning_acts traps cause detail) t e x regs well running here)

  ends : IsStep e x (counted (x.budget - 1) (unchanged e (faulted x fault.Budget)))
  ends = stepped_by (λ number s f y. unchanged f (faulted y fault.Budget)) (λ number s f y. acts_unchanged f y (faulted y fault.Budget) refl refl (λ more n. omega arith)) t e x x.regs well running here

  out_of : (g : Guard) (o : Option (Name × ℕ)) → way_back traps e.world x.context ≡ o →
      IsStep e x (counted (x.budget - 1) (returned o NO_FUEL None t e x g (unchanged e (faulted x fault.Budget))).outcome)
  out_of g None is = ends
  out_of g (Some (m, slot)) is = back NO_FUEL None x.regs m slot is

  by_way : (g : Guard) (cause : ℕ) (o : Option (Name × ℕ)) → way_back traps e.world x.context ≡ o →
      IsStep e x (counted (x.budget - 1) (returned o cause (detail_of advance.after advance.next) t e caller g (next_outcome (calls_under traps) t e caller advance.next)).outcome)
  by_way g cause None is = under
  by_way g cause (Some (m, slot)) is = back cause _ advance.after m slot is

  by_cause : (g : Guard) (cause : Option ℕ) → IsStep e x (counted (x.budget - 1) (made_or_returned traps t e caller advance.next g (next_outcome (calls_under traps) t e caller advance.next) cause).outcome)
  by_cause g None = under
  by_cause g (Some cause) = by_way g cause (way_back traps e.world x.context) refl

  by_fuel : (g : Guard) (b : Bool) → IsStep e x (counted (x.budget - 1) (cond b (unfuelled traps t e x g) (fuelled_step traps t e x advance g)).outcome)
  by_fuel g true = out_of g (way_back traps e.world x.context) refl
  by_fuel g false = by_cause (lowered g) _

  by_guard : (o : Option Guard) → IsStep e x (counted (x.budget - 1) (left_by o traps guards t e x advance).outcome)
  unfolding guarded_course advance_outcome
  by_guard None = step_running (calls_guarded traps guards) (acts_guarded traps guards) t e x advance well running here
  by_guard (Some g) = by_fuel g (eqb g.fuel 0)

  -- what a step of a running thread leaves
  step_left : IsStep e x (counted (x.budget - 1) (left_running traps guards t e x advance).outcome)
  unfolding left_running
  step_left = by_guard (fm.get guards x.context)

-- a thread whose context is a root is ready in the reaped world
kept_ready : (w : World) (names : List Name) (x : Thread) → is_among names x.context ≡ true → IsReadyThread w x → IsReadyThread (reap w names) x
kept_ready w names x among ready =
    let size = (reap-stays w names).0 in
    record {
      live = root_kept w names x.context ready.live among;
      budget = ready.budget;
      runs = while_running (IsRunnable w x) (IsRunnable (reap w names) x) x.status
          (λ runs. record { some_job = runs.some_job; known_job = omega (arith, ap (λ s. s.jobs) size, runs.known_job); some_step = runs.some_step }) ready.runs;
    }

module _ (inputs : Inputs) (steps t : ℕ) (m : Machine) (x : Thread) (ready : IsReady inputs steps m) (found : slice_get m.threads t ≡ Some x) where
  -- what a step of the thread leaves
  pub after_left : (traps : Traps) (guards later : Guards) (st : ThreadStatus) (after : AfterStep) → x.status ≡ st → left_of traps guards t m.environment None m.text x st ≡ (Some after, later) →
      IsAfter m None t x after × (after.serve ≡ None)
  after_left traps guards later status.Running after running made =
      let here = ready_thread inputs steps t m x ready found in
      let o : Outcome = counted (x.budget - 1) (left_running traps guards t m.environment x (advanced m.text x.regs)).outcome in
      let is : only None o ≡ after = (let both : Some (only None o) ≡ Some after = ap (λ (p : Option AfterStep × Guards). p.0) made in cc) in
      subst (λ (z : AfterStep). IsAfter m None t x z × (z.serve ≡ None)) is
      (running_on inputs steps t m x ready found here None o running (step_left traps guards t m.environment x (advanced m.text x.regs) (well_ready inputs steps m ready) running here), refl)
  after_left traps guards later status.Idle after idle made =
      let here = ready_thread inputs steps t m x ready found in
      let o : Outcome = unchanged m.environment (with_status x (status.Done 0)) in
      let is : only None o ≡ after = (let both : Some (only None o) ≡ Some after = ap (λ (p : Option AfterStep × Guards). p.0) made in cc) in
      subst (λ (z : AfterStep). IsAfter m None t x z × (z.serve ≡ None)) is (idle_ends inputs steps t m x ready found here None idle, refl)
  after_left traps guards later (status.Done code) after ended made = (let none : None ≡ Some after = ap (λ (p : Option AfterStep × Guards). p.0) made in cc)
  after_left traps guards later (status.Faulted f) after ended made = (let none : None ≡ Some after = ap (λ (p : Option AfterStep × Guards). p.0) made in cc)

  module _ (after : AfterStep) (is : IsAfter m None t x after) (none : after.serve ≡ None) where
    threads_after : All (IsReadyThread after.environment.world) (slice_set m.threads t after.thread)
    threads_after =
        All-set (IsReadyThread after.environment.world) m.threads t after.thread is.ready
        (All-weaker (IsReadyThread m.environment.world) (IsReadyThread after.environment.world) is.others m.threads ready.threads)

    -- the roots live
    pub live_after : All (λ c. is_live after.environment.world c ≡ true) (roots (slice_set m.threads t after.thread) None)
    live_after =
        All-append (λ c. is_live after.environment.world c ≡ true) (contexts_of (slice_set m.threads t after.thread)) []
        (live_roots after.environment.world (slice_set m.threads t after.thread)
        (All-weaker (IsReadyThread after.environment.world) (λ (y : Thread). is_live after.environment.world y.context ≡ true) (λ y there. there.live) (slice_set m.threads t after.thread) threads_after))
        (All-nil _)

    -- and the machine is ready
    pub ready_outcome : IsReady inputs (steps + 1) (after_outcome m t (Some after))
    ready_outcome =
        let v = after.environment.world in
        let threads : List Thread = slice_set m.threads t after.thread in
        let names : List Name = roots threads after.serve in
        let rest = reap-stays v names in
        record {
          image = ready.image;
          size = rest.0 ∙ is.size ∙ ready.size;
          sound = sound-reap v names is.well.sound;
          named = contexts-reap v names is.well.named;
          files = files-reap after.environment.channels v names is.well.files;
          given_files = is.given.0 ∙ ready.given_files;
          given_requests = is.given.1 ∙ ready.given_requests;
          few_requests = ready.few_requests;
          reaped = reaped-reap v names;
          limits = is.limits;
          counted = λ job. subst (λ (next : ℕ → Counters). IsCounted (most_counted (steps + 1)) (next job)) (sym rest.1) (record {
            contexts = omega (arith, (ready.counted job).contexts, (is.rises job).contexts);
            groups = omega (arith, (ready.counted job).groups, (is.rises job).groups);
            tags = omega (arith, (ready.counted job).tags, (is.rises job).tags);
          });
          threads = λ k d within. kept_ready v names (get_or threads k d) (each_root threads after.serve k d within) (threads_after k d within);
          count = length-set m.threads t after.thread ∙ ready.count;
          some = rw length-set ready.some;
          few = rw length-set ready.few;
          text = ready.text;
          serve = subst (λ (o : Option Serve). IfSome o (IsReadyServe inputs (after_outcome m t (Some after)))) (sym none) tt;
        }
