-- Runs in which no step meets a limit of pages: each machine is that of the run with more pages.
use Rattle.std.proofs.Common.{◌≡◌, ◌≢◌, ◌∙◌, ◌+◌, ◌*◌, ◌%◌, ◌≤◌, ◌<◌, refl, sym, ap, subst, ℕ, Bool, true, false, cond, eqb, eqb-true, Option, Some, None, [], ◌∷◌, length, arith}
use Rattle.std.proofs.lemmas.Option.{slice_get_within}
use Rattle.std.specs.Prelude.{nat_le, nat_lt, slice_get, slice_index, slice_set, IfSome}
use Rattle.std.specs.Int.{w64, to_le_bytes}
use Rattle.guest_image.specs.Limits.{pages_of}
use Rattle.guest_image.specs.declared.image.Form.{Form}
use Rattle.guest_image.specs.declared.image.Form.TheVariants.{One, Two}
use Rattle.guest_image.proofs.Lifted.{most_pages}
use Rattle.guest_isa.specs.declared.instr.Instr.{Instr}
use Rattle.guest_isa.specs.declared.op.Op.{Op}
use Rattle.guest_isa.specs.declared.op.Op.TheVariants.{Stb, Stw, Sys}
use Rattle.guest_machine.specs.Advances.{advanced}
use Rattle.guest_machine.specs.declared.progress.Advance.{Advance}
use Rattle.guest_machine.specs.declared.progress.Next.{Next}
use Rattle.guest_machine.specs.declared.progress.Next.TheVariants as next
use Rattle.kernel_core.proofs.Outcomes.{guest_calls_act, step_running}
use Rattle.kernel_core.proofs.ReadyRuns.{ready_thread, well_ready}
use Rattle.kernel_core.specs.Machine.{Environment, Machine, Serve, has_ended, home_of}
use Rattle.kernel_core.specs.Ready.{IsReady, IsReadyServe}
use Rattle.kernel_core.specs.Refused.{refusal_in, refusal_of}
use Rattle.kernel_core.specs.Start.{Inputs}
use Rattle.kernel_core.specs.Step.{AfterStep, Outcome, address, advance_outcome, after_outcome, after_thread, args_of, begin_next, finish, guest_calls, is_aligned, next_outcome, only, roots, settled, shared_outcome, step, step_by, store_outcome, stored_outcome, thread_outcome, three_times, unchanged, with_regs, with_status, woken}
use Rattle.kernel_core.specs.declared.calling.TheConstants.{LW_CREATE, LW_OVERLAY, LW_RESTRICT, LW_SWITCH, LW_SYSCALL}
use Rattle.kernel_core.specs.declared.thread.Thread.{Thread}
use Rattle.lwc_base.specs.Cells.{slot_at}
use Rattle.lwc_base.specs.Holders.{InContext}
use Rattle.lwc_base.specs.Life.{HasItsContexts}
use Rattle.lwc_base.specs.Store.{Piece, Stored, after_store, store}
use Rattle.lwc_base.specs.Store as stores
use Rattle.lwc_base.specs.World.{World, is_live}
use Rattle.lwc_base.specs.declared.descriptor.Descriptor.TheVariants.{Request, Reply}
use Rattle.lwc_base.proofs.Holders.{keeps-add_context}
use Rattle.lwc_types.specs.declared.fault.ThreadStatus.{ThreadStatus}
use Rattle.lwc_types.specs.declared.fault.ThreadStatus.TheVariants as status
use Rattle.lwc_types.specs.declared.key.Key.TheVariants.{Page, Slot, Cred}
use Rattle.lwc_types.specs.declared.limits.TheConstants.{MOST_PAGES}
use Rattle.lwc_types.specs.declared.name.Name.{Name}
use Rattle.lwc_types.specs.declared.page.TheConstants.{PAGE_BYTES}
use Rattle.lwc_types.specs.declared.size.WorldSize.{WorldSize}
use Rattle.lwc_types.proofs.Small.{same_some}
use Rattle.lwc_overlay.specs.RestrictCall.{restrict}
use Rattle.lwc_syscall.specs.Plain.{world_after, plain_call}
use Rattle.snapshot_host.specs.Begin.{begin, begun_context}
use Rattle.lift_law.proofs.Calls.{MayAct}
use Rattle.lift_law.proofs.Ends.{ends-begin}
use Rattle.lift_law.proofs.Pages.{HasNoMore, no_more}
use Rattle.lift_law.proofs.Staying.{KeepsWhole, create-whole, overlay-whole, plain-whole, restrict-whole, stored-whole, switch-whole, syscall-whole}
use Rattle.lift_law.proofs.Stepping.{MeetsAt, after-wide, outcome-wide, wide_machine}
use Rattle.lift_law.proofs.Whole.{IsWhole, whole, whole-at, whole-reap}
use Rattle.lift_law.specs.Lifting.{MeetsNoLimit}

module _ (t : ℕ) (e : Environment) (x : Thread) (keeps : KeepsWhole e.world.size.pages e.world) (live : is_live e.world x.context ≡ true) (named : HasItsContexts e.world) where
  abbrev IsKept : Outcome → Type 0
  IsKept o = KeepsWhole e.world.size.pages o.environment.world

  either : (b : Bool) (o p : Outcome) → (b ≡ true → IsKept o) → (b ≡ false → IsKept p) → IsKept (cond b o p)
  either true o p first second = first refl
  either false o p first second = second refl

  -- a call that is no accepted restriction
  call-whole : (number : ℕ) → (number ≡ LW_RESTRICT → refusal_of number t e x ≢ None) → IsKept (guest_calls number t e x)
  unfolding guest_calls refusal_of
  call-whole number kept =
      either (eqb number LW_CREATE) _ _ (λ is. create-whole x.context x.job t e.world e.channels keeps live named x.regs) (λ no_create.
      either (eqb number LW_SWITCH) _ _ (λ is. switch-whole x.context x.job t e.world e.channels keeps live named x.regs) (λ no_switch.
      either (eqb number LW_RESTRICT) _ _ (λ is. restrict-whole x.context x.job t e.world e.channels keeps live named x.regs (refused (eqb-true number LW_RESTRICT is))) (λ no_restriction.
      either (eqb number LW_OVERLAY) _ _ (λ is. overlay-whole x.context x.job t e.world e.channels keeps live named x.regs) (λ no_overlay.
      either (eqb number LW_SYSCALL) _ _ (λ is. syscall-whole x.context x.job t e.world e.channels keeps live named x.regs) (λ no_syscall.
      plain-whole e.world.size.pages e.world keeps e.channels x.job (three_times x.context) live (plain_call number) (args_of x.regs))))))
    where
      refused : number ≡ LW_RESTRICT → refusal_in (restrict e.world x.context x.regs).0 ≢ None
      refused is = subst (λ n. refusal_of n t e x ≢ None → refusal_in (restrict e.world x.context x.regs).0 ≢ None) (sym is) at_restrict (kept is)
        where
          at_restrict : refusal_of LW_RESTRICT t e x ≢ None → refusal_in (restrict e.world x.context x.regs).0 ≢ None
          at_restrict some none = some none

  stored-kept : (piece : Piece) → IsKept (stored_outcome e x (store e.world x.context x.job piece))
  unfolding store
  stored-kept piece = by (store e.world x.context x.job piece) (stored-whole e.world.size.pages e.world keeps x.context x.job piece)
    where
      by : (s : Stored) → KeepsWhole e.world.size.pages (world_after e.world s) → IsKept (stored_outcome e x s)
      by stores.Absent is = keeps
      by stores.ReadOnly is = keeps
      by stores.Full is = keeps
      by (stores.Done v) is = is

  store-kept : (piece : Piece) → IsKept (store_outcome e x piece)
  unfolding store_outcome
  store-kept piece = either (nat_le (piece.at + length piece.bytes) (e.world.size.pages * PAGE_BYTES)) _ _ (λ is. stored-kept piece) (λ is. keeps)

  shared-kept : (i : Instr) (op : Op) → (op ≡ Sys → i.imm ≡ LW_RESTRICT → refusal_of i.imm t e x ≢ None) → IsKept (shared_outcome guest_calls t e x i op)
  unfolding shared_outcome
  shared-kept i Stb kept = store-kept (record { at = address x.regs i; bytes = slice_index x.regs.r i.rb % 256 ∷ [] })
  shared-kept i Stw kept = either (is_aligned (address x.regs i)) _ _ (λ is. store-kept (record { at = address x.regs i; bytes = to_le_bytes w64 (slice_index x.regs.r i.rb) })) (λ is. keeps)
  shared-kept i Sys kept = call-whole i.imm (kept refl)
  shared-kept i _ kept = keeps

  next-kept : (n : Next) → ((i : Instr) → n ≡ next.Shared i → i.op ≡ Sys → i.imm ≡ LW_RESTRICT → refusal_of i.imm t e x ≢ None) → IsKept (next_outcome guest_calls t e x n)
  unfolding next_outcome
  next-kept next.Pause kept = keeps
  next-kept next.BadPc kept = keeps
  next-kept (next.Shared i) kept = shared-kept i i.op (kept i refl)

advance-kept : (t : ℕ) (e : Environment) (x : Thread) → KeepsWhole e.world.size.pages e.world → is_live e.world x.context ≡ true → HasItsContexts e.world → (advance : Advance) → MeetsAt t e x advance →
    KeepsWhole e.world.size.pages (advance_outcome guest_calls t e x advance).environment.world
unfolding advance_outcome
advance-kept t e x keeps live named advance meets = next-kept t e (with_regs x advance.after) keeps live named advance.next (λ i is sys. (meets i is sys).1)

-- the world that a step leaves before what is not reached is dropped
settled-world : (t : ℕ) (serve : Option Serve) (o : Outcome) → (settled t serve o).environment ≡ o.environment
settled-world t None o = refl
settled-world t (Some s) o = by (has_ended o.thread.status)
  where
    by : (b : Bool) → (cond b (finish t s o) (only (Some s) o)).environment ≡ o.environment
    by true = refl
    by false = refl

-- the context of a request has full and empty capabilities alone
begun-kept : (pages : ℕ) (w : World) (home : Name) (r : ℕ) → KeepsWhole pages w → is_live w home ≡ true → KeepsWhole pages (begin w home r)
unfolding begin begun_context
begun-kept pages w home r keeps live = keeps-add_context (whole pages) w (r + 1) (begun_context w home r) cells keeps
  where
    slot : (a b : Bool) (n : ℕ) → IsWhole pages (cond a (Request r 0) (cond b (Reply r) (slot_at w home n)))
    slot true b n = tt
    slot false true n = tt
    slot false false n = whole-at pages w keeps home n live

    cells : InContext (whole pages) (r + 1) (begun_context w home r)
    cells (Page p) = tt
    cells (Slot n) = slot (eqb n 0) (eqb n 1) n
    cells Cred = tt

-- what a machine of a run is, and a step of it
module _ (inputs : Inputs) (count t : ℕ) (m : Machine) (ready : IsReady inputs count m) (keeps : KeepsWhole m.environment.world.size.pages m.environment.world) (meets : MeetsNoLimit m t) where
  abbrev e : Environment
  e = m.environment

  few_pages : e.world.size.pages ≤ MOST_PAGES
  few_pages = subst (λ (z : WorldSize). z.pages ≤ MOST_PAGES) (sym ready.size) (most_pages inputs.image.form)

  ends : HasNoMore e.world
  ends = no_more e.world ready.sound few_pages

  some_page : 1 ≤ e.world.size.pages
  some_page = subst (λ (z : WorldSize). 1 ≤ z.pages) (sym ready.size) (by inputs.image.form)
    where
      by : (form : Form) → 1 ≤ pages_of form
      by One = omega arith
      by Two = omega arith

  -- the running thread meets no limit
  thread_meets : (x : Thread) → slice_get m.threads t ≡ Some x → x.status ≡ status.Running → MeetsAt t e x (advanced m.text x.regs)
  thread_meets x found running i is sys = meets x i found running is sys

  -- what a step of a thread that was found leaves: a world without pages past the last one, with full and empty capabilities
  record IsFine (o : Option AfterStep) : Type 0 where
    bounded : (a : AfterStep) → o ≡ Some a → HasNoMore a.environment.world
    whole_caps : (a : AfterStep) → o ≡ Some a → KeepsWhole e.world.size.pages a.environment.world

  fine_some : (a : AfterStep) → HasNoMore a.environment.world → KeepsWhole e.world.size.pages a.environment.world → IsFine (Some a)
  fine_some a no_more_there kept = record {
    bounded = λ b same. subst (λ (c : AfterStep). HasNoMore c.environment.world) (same_some a b same) no_more_there;
    whole_caps = λ b same. subst (λ (c : AfterStep). KeepsWhole e.world.size.pages c.environment.world) (same_some a b same) kept;
  }

  running-fine : (x : Thread) → slice_get m.threads t ≡ Some x → x.status ≡ status.Running → IsFine (Some (settled t m.serve (advance_outcome guest_calls t e x (advanced m.text x.regs))))
  running-fine x found running =
      let thread = ready_thread inputs count t m x ready found in
      let changes = (step_running guest_calls guest_calls_act t e x (advanced m.text x.regs) (well_ready inputs count m ready) running thread).changes in
      let o : Outcome = advance_outcome guest_calls t e x (advanced m.text x.regs) in
      let size : o.environment.world.size ≡ e.world.size = changes.grows.size in
      let there : HasNoMore o.environment.world = no_more o.environment.world changes.well.sound (subst (λ (z : WorldSize). z.pages ≤ MOST_PAGES) (sym size) few_pages) in
      let kept : KeepsWhole e.world.size.pages o.environment.world = advance-kept t e x keeps thread.live ready.named (advanced m.text x.regs) (thread_meets x found running) in
      let same = sym (settled-world t m.serve o) in
      fine_some (settled t m.serve o) (subst (λ (f : Environment). HasNoMore f.world) same there) (subst (λ (f : Environment). KeepsWhole e.world.size.pages f.world) same kept)

  woken-fine : (serve : Option Serve) → m.serve ≡ serve → t < length m.threads → (x : Thread) → IsFine (Some (woken t serve e x))
  woken-fine None is within x = fine_some (woken t None e x) ends keeps
  woken-fine (Some s) is within x = by (nat_lt s.next (length e.channels.requests))
    where
      serves : IsReadyServe inputs m s
      serves = subst (λ (o : Option Serve). IfSome o (IsReadyServe inputs m)) is ready.serve

      by : (b : Bool) → IsFine (Some (cond b (begin_next t s e) (only (Some s) (unchanged e (with_status x (status.Done 0))))))
      by true = fine_some (begin_next t s e) (ends-begin e.world ends (home_of t) s.next)
          (begun-kept e.world.size.pages e.world (home_of t) s.next keeps (serves.live t (subst (λ n. t < n) serves.count within)))
      by false = fine_some (only (Some s) (unchanged e (with_status x (status.Done 0)))) ends keeps

  outcome-fine : (x : Thread) → slice_get m.threads t ≡ Some x → (s : ThreadStatus) → x.status ≡ s → IsFine (thread_outcome guest_calls t e m.serve m.text x s)
  outcome-fine x found status.Running is = running-fine x found is
  outcome-fine x found status.Idle is = woken-fine m.serve refl (slice_get_within m.threads t x found) x
  outcome-fine x found (status.Done code) is = record { bounded = λ a same. cc; whole_caps = λ a same. cc }
  outcome-fine x found (status.Faulted f) is = record { bounded = λ a same. cc; whole_caps = λ a same. cc }

  may : (x : Thread) → slice_get m.threads t ≡ Some x → MayAct e.world x.context
  may x found = record { ends = ends; keeps = keeps; live = (ready_thread inputs count t m x ready found).live; some = some_page }

  pub step-wide : step (wide_machine m) t ≡ wide_machine (step m t)
  unfolding step_by
  step-wide = by (slice_get m.threads t) refl
    where
      by : (o : Option Thread) → slice_get m.threads t ≡ o → after_thread guest_calls (wide_machine m) t o ≡ wide_machine (after_thread guest_calls m t o)
      by None is = refl
      by (Some x) is =
          ap (after_outcome (wide_machine m) t) (outcome-wide t e m.serve m.text x x.status (λ running. (may x is, thread_meets x is running)))
          ∙ after-wide m t (thread_outcome guest_calls t e m.serve m.text x x.status) (outcome-fine x is x.status refl).bounded

  after-kept : (o : Option AfterStep) → IsFine o → KeepsWhole e.world.size.pages (after_outcome m t o).environment.world
  after-kept None fine = keeps
  after-kept (Some a) fine = whole-reap e.world.size.pages a.environment.world (fine.whole_caps a refl) (roots (slice_set m.threads t a.thread) a.serve)

  pub step-kept : KeepsWhole e.world.size.pages (step m t).environment.world
  unfolding step_by
  step-kept = by (slice_get m.threads t) refl
    where
      by : (o : Option Thread) → slice_get m.threads t ≡ o → KeepsWhole e.world.size.pages (after_thread guest_calls m t o).environment.world
      by None is = keeps
      by (Some x) is = after-kept (thread_outcome guest_calls t e m.serve m.text x x.status) (outcome-fine x is x.status refl)
