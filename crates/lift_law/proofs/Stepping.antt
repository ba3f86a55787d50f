-- A step is the same step where there are more pages, and keeps capabilities full or empty.
use Rattle.std.proofs.Common.{◌≡◌, ◌≢◌, ◌∙◌, ◌+◌, ◌-◌, ◌*◌, ◌%◌, ◌<◌, refl, ap, ℕ, Bool, true, false, cond, eqb, eqb-true, Option, Some, None, List, [], ◌∷◌, length, arith}
use Rattle.std.proofs.lemmas.Bool.Decides.{nat_tests}
use Rattle.std.specs.Prelude.{nat_le, nat_lt, slice_index, slice_set}
use Rattle.std.specs.Int.{w64, from_le_bytes, to_le_bytes}
use Rattle.std.specs.Option.{option_map}
use Rattle.guest_isa.specs.declared.instr.Instr.{Instr}
use Rattle.guest_isa.specs.declared.op.Op.{Op}
use Rattle.guest_isa.specs.declared.op.Op.TheVariants.{Ldb, Ldw, Stb, Stw, Sys, Halt}
use Rattle.guest_machine.specs.Advances.{advanced}
use Rattle.guest_machine.specs.declared.progress.Advance.{Advance}
use Rattle.guest_machine.specs.declared.progress.Next.{Next}
use Rattle.guest_machine.specs.declared.progress.Next.TheVariants as next
use Rattle.kernel_core.specs.Machine.{Environment, Machine, Serve, has_ended, home_of}
use Rattle.kernel_core.specs.Refused.{refusal_at_end, refusal_in, refusal_of, refusal_to_move}
use Rattle.kernel_core.specs.Step.{AfterStep, Outcome, address, advance_outcome, after_outcome, args_of, begin_next, call_outcome, counted, ended_outcome, finish, guest_calls, is_aligned, loaded, next_outcome, only, roots, settled, shared_outcome, store_outcome, stored_outcome, switched, serving, thread_outcome, three_times, unchanged, waiting, with_regs, with_status, with_world, woken}
use Rattle.kernel_core.specs.declared.calling.TheConstants.{LW_CREATE, LW_OVERLAY, LW_RESTRICT, LW_SWITCH, LW_SYSCALL}
use Rattle.kernel_core.specs.declared.thread.Thread.{Thread}
use Rattle.lwc_base.specs.Cells.{slot_at}
use Rattle.lwc_base.specs.Store.{Piece, Stored, store}
use Rattle.lwc_base.specs.Store as stores
use Rattle.lwc_base.specs.World.{World}
use Rattle.lwc_base.specs.declared.cell.Cell.TheVariants.{Own}
use Rattle.lwc_base.specs.declared.descriptor.Descriptor.{Descriptor}
use Rattle.lwc_base.specs.declared.descriptor.Descriptor.TheVariants.{Request, Reply}
use Rattle.lwc_types.specs.declared.fault.ThreadStatus.{ThreadStatus}
use Rattle.lwc_types.specs.declared.fault.ThreadStatus.TheVariants as status
use Rattle.lwc_types.specs.declared.key.Key.{Key}
use Rattle.lwc_types.specs.declared.key.Key.TheVariants.{Page, Slot, Cred}
use Rattle.lwc_types.specs.declared.limits.TheConstants.{MOST_PAGES}
use Rattle.lwc_types.specs.declared.name.Name.{Name}
use Rattle.lwc_types.specs.declared.page.TheConstants.{PAGE_BYTES}
use Rattle.lwc_types.specs.declared.refusal.Refusal.{Refusal}
use Rattle.lwc_types.specs.declared.refusal.Refusal.TheVariants.{BadRange}
use Rattle.lwc_create.specs.Create.{create}
use Rattle.lwc_overlay.specs.OverlayCall.{overlay}
use Rattle.lwc_overlay.specs.RestrictCall.{restrict}
use Rattle.lwc_switch.specs.Switch.{switch}
use Rattle.lwc_syscall.specs.Plain.{plain, plain_call}
use Rattle.lwc_syscall.specs.Syscall.{lw_syscall}
use Rattle.snapshot_host.specs.Begin.{begin, begun_context, begun_value}
use Rattle.lift_law.proofs.Calls.{MayAct, create-wide, overlay_call-wide, restrict-wide, switch-wide}
use Rattle.lift_law.proofs.Changes.{add_context-wide, store-wide, wide_stored}
use Rattle.lift_law.proofs.Counts.{reap-wide}
use Rattle.lift_law.proofs.Ends.{bytes-wide, store-past}
use Rattle.lift_law.proofs.Pages.{HasNoMore}
use Rattle.lift_law.proofs.Plainly.{plain-wide, syscall-wide}
use Rattle.lift_law.proofs.Wide.{context-wide, entry-wide, page-wide, slot-wide, uid-wide, wide, wide_context, wide_descriptor, wide_value}

abbrev pub wide_env : Environment → Environment
wide_env e = with_world e (wide e.world)

abbrev pub wide_out : Outcome → Outcome
wide_out o = record o { environment = wide_env o.environment }

abbrev pub wide_after : AfterStep → AfterStep
wide_after a = record a { environment = wide_env a.environment }

abbrev pub wide_machine : Machine → Machine
wide_machine m = record m { environment = wide_env m.environment }

-- a call that is not refused for a range, and is no accepted restriction, is followed
abbrev FollowsCall : ℕ → Option Refusal → Outcome → Outcome → Type 0
FollowsCall number refusal o wider = refusal ≢ Some BadRange → (number ≡ LW_RESTRICT → refusal ≢ None) → wider ≡ wide_out o

either : (number : ℕ) (b : Bool) (r s : Option Refusal) (o p v w : Outcome) → (b ≡ true → FollowsCall number r o v) → FollowsCall number s p w → FollowsCall number (cond b r s) (cond b o p) (cond b v w)
either number true r s o p v w first second = first refl
either number false r s o p v w first second = second

by_row : (number : ℕ) (r1 r2 r3 r4 r5 r6 : Option Refusal) (a b c d e f : Outcome) (l m n o p q : Outcome) → FollowsCall number r1 a l → FollowsCall number r2 b m →
    (number ≡ LW_RESTRICT → FollowsCall number r3 c n) → FollowsCall number r4 d o → FollowsCall number r5 e p → FollowsCall number r6 f q →
    FollowsCall number
    (cond (eqb number LW_CREATE) r1 (cond (eqb number LW_SWITCH) r2 (cond (eqb number LW_RESTRICT) r3 (cond (eqb number LW_OVERLAY) r4 (cond (eqb number LW_SYSCALL) r5 r6)))))
    (cond (eqb number LW_CREATE) a (cond (eqb number LW_SWITCH) b (cond (eqb number LW_RESTRICT) c (cond (eqb number LW_OVERLAY) d (cond (eqb number LW_SYSCALL) e f)))))
    (cond (eqb number LW_CREATE) l (cond (eqb number LW_SWITCH) m (cond (eqb number LW_RESTRICT) n (cond (eqb number LW_OVERLAY) o (cond (eqb number LW_SYSCALL) p q)))))
by_row number r1 r2 r3 r4 r5 r6 a b c d e f l m n o p q is_a is_b is_c is_d is_e is_f =
    let at_5 = either number (eqb number LW_SYSCALL) r5 r6 e f p q (λ is. is_e) is_f in
    let at_4 = either number (eqb number LW_OVERLAY) r4 _ d _ o _ (λ is. is_d) at_5 in
    let at_3 = either number (eqb number LW_RESTRICT) r3 _ c _ n _ (λ is. is_c (eqb-true number LW_RESTRICT is)) at_4 in
    let at_2 = either number (eqb number LW_SWITCH) r2 _ b _ m _ (λ is. is_b) at_3 in
    either number (eqb number LW_CREATE) r1 _ a _ l _ (λ is. is_a) at_2

module _ (t : ℕ) (e : Environment) (x : Thread) (may : MayAct e.world x.context) where
  pub calls-wide : (number : ℕ) → FollowsCall number (refusal_of number t e x) (guest_calls number t e x) (guest_calls number t (wide_env e) x)
  unfolding guest_calls refusal_of
  calls-wide number =
      let c : Name = x.context in
      by_row number
      (refusal_in (create e.world c x.job x.regs).0) (refusal_to_move (switch e.world c t x.regs).0) (refusal_in (restrict e.world c x.regs).0) (refusal_in (overlay e.world c x.job x.regs).0)
      (refusal_at_end (lw_syscall e.world e.channels c x.job x.regs).answer) (refusal_at_end (plain e.world e.channels (three_times c) x.job (plain_call number) (args_of x.regs)).answer)
      (call_outcome e x (create e.world c x.job x.regs)) (unchanged (with_world e (switch e.world c t x.regs).1) (switched x (switch e.world c t x.regs).0))
      (call_outcome e x (restrict e.world c x.regs)) (call_outcome e x (overlay e.world c x.job x.regs)) (ended_outcome x (lw_syscall e.world e.channels c x.job x.regs))
      (ended_outcome x (plain e.world e.channels (three_times c) x.job (plain_call number) (args_of x.regs)))
      (call_outcome (wide_env e) x (create (wide e.world) c x.job x.regs)) (unchanged (with_world (wide_env e) (switch (wide e.world) c t x.regs).1) (switched x (switch (wide e.world) c t x.regs).0))
      (call_outcome (wide_env e) x (restrict (wide e.world) c x.regs)) (call_outcome (wide_env e) x (overlay (wide e.world) c x.job x.regs)) (ended_outcome x (lw_syscall (wide e.world) e.channels c x.job x.regs))
      (ended_outcome x (plain (wide e.world) e.channels (three_times c) x.job (plain_call number) (args_of x.regs)))
      (λ free kept. ap (call_outcome (wide_env e) x) (create-wide c x.job e.world may x.regs free))
      (λ free kept. ap (λ r. unchanged (with_world (wide_env e) r.1) (switched x r.0)) (switch-wide c x.job e.world may x.regs t))
      (λ is free kept. ap (call_outcome (wide_env e) x) (restrict-wide c x.job e.world may x.regs free (kept is)))
      (λ free kept. ap (call_outcome (wide_env e) x) (overlay_call-wide c x.job e.world may x.regs free))
      (λ free kept. ap (ended_outcome x) (syscall-wide e.world e.channels c may x.job x.regs free))
      (λ free kept. ap (ended_outcome x) (plain-wide e.world may.ends e.channels (three_times c) x.job (plain_call number) (args_of x.regs) free))

  stored-wide : (s : Stored) → stored_outcome (wide_env e) x (wide_stored s) ≡ wide_out (stored_outcome e x s)
  stored-wide stores.Absent = refl
  stored-wide stores.ReadOnly = refl
  stored-wide stores.Full = refl
  stored-wide (stores.Done w) = refl

  store_out-wide : (piece : Piece) → 0 < length piece.bytes → store_outcome (wide_env e) x piece ≡ wide_out (store_outcome e x piece)
  unfolding store_outcome
  store_out-wide piece some =
      ap (λ s. cond (nat_le (piece.at + length piece.bytes) (MOST_PAGES * PAGE_BYTES)) (stored_outcome (wide_env e) x s) (stored_outcome (wide_env e) x stores.Absent))
      (store-wide e.world may.ends x.context x.job piece)
      ∙ by (nat_le (piece.at + length piece.bytes) (e.world.size.pages * PAGE_BYTES)) refl (nat_le (piece.at + length piece.bytes) (MOST_PAGES * PAGE_BYTES)) refl
    where
      by : (b : Bool) → nat_le (piece.at + length piece.bytes) (e.world.size.pages * PAGE_BYTES) ≡ b → (d : Bool) → nat_le (piece.at + length piece.bytes) (MOST_PAGES * PAGE_BYTES) ≡ d →
          cond d (stored_outcome (wide_env e) x (wide_stored (store e.world x.context x.job piece))) (stored_outcome (wide_env e) x stores.Absent)
          ≡ wide_out (cond b (stored_outcome e x (store e.world x.context x.job piece)) (stored_outcome e x stores.Absent))
      by true inside true most = stored-wide (store e.world x.context x.job piece)
      by true inside false most = let few = may.ends.few in absurd (grind (arith, nat_tests))
      by false past true most =
          ap (λ s. stored_outcome (wide_env e) x (wide_stored s)) (store-past e.world may.ends x.context x.job piece some (grind (arith, nat_tests)))
      by false past false most = refl

  either_out : (b : Bool) (u v y z : Outcome) → u ≡ wide_out y → v ≡ wide_out z → cond b u v ≡ wide_out (cond b y z)
  either_out true u v y z first second = first
  either_out false u v y z first second = second

  shared-wide : (i : Instr) (op : Op) → (op ≡ Sys → (refusal_of i.imm t e x ≢ Some BadRange) × (i.imm ≡ LW_RESTRICT → refusal_of i.imm t e x ≢ None)) →
      shared_outcome guest_calls t (wide_env e) x i op ≡ wide_out (shared_outcome guest_calls t e x i op)
  unfolding shared_outcome
  shared-wide i Ldb meets = ap (λ o. unchanged (wide_env e) (loaded x i.rd (option_map (λ bytes. slice_index bytes 0) o))) (bytes-wide e.world may.ends x.context (address x.regs i) 1)
  shared-wide i Ldw meets =
      ap (λ o. unchanged (wide_env e) (loaded x i.rd (cond (is_aligned (address x.regs i)) (option_map (from_le_bytes w64) o) None))) (bytes-wide e.world may.ends x.context (address x.regs i) 8)
  shared-wide i Stb meets = store_out-wide (record { at = address x.regs i; bytes = slice_index x.regs.r i.rb % 256 ∷ [] }) (omega arith)
  shared-wide i Stw meets =
      either_out (is_aligned (address x.regs i)) _ _ _ _ (store_out-wide (record { at = address x.regs i; bytes = to_le_bytes w64 (slice_index x.regs.r i.rb) }) (omega arith)) refl
  shared-wide i Sys meets = calls-wide i.imm (meets refl).0 (meets refl).1
  shared-wide i Halt meets = refl
  shared-wide i _ meets = refl

  next-wide : (n : Next) → ((i : Instr) → n ≡ next.Shared i → i.op ≡ Sys → (refusal_of i.imm t e x ≢ Some BadRange) × (i.imm ≡ LW_RESTRICT → refusal_of i.imm t e x ≢ None)) →
      next_outcome guest_calls t (wide_env e) x n ≡ wide_out (next_outcome guest_calls t e x n)
  unfolding next_outcome
  next-wide next.Pause meets = refl
  next-wide next.BadPc meets = refl
  next-wide (next.Shared i) meets = shared-wide i i.op (meets i refl)

advance-wide : (t : ℕ) (e : Environment) (x : Thread) → MayAct e.world x.context → (advance : Advance) →
    ((i : Instr) → advance.next ≡ next.Shared i → i.op ≡ Sys → (refusal_of i.imm t e (with_regs x advance.after) ≢ Some BadRange) × (i.imm ≡ LW_RESTRICT → refusal_of i.imm t e (with_regs x advance.after) ≢ None)) →
    advance_outcome guest_calls t (wide_env e) x advance ≡ wide_out (advance_outcome guest_calls t e x advance)
unfolding advance_outcome
advance-wide t e x may advance meets = ap (counted (x.budget - 1)) (next-wide t e (with_regs x advance.after) may advance.next meets)

-- the end of a step
settled-wide : (t : ℕ) (serve : Option Serve) (o : Outcome) → settled t serve (wide_out o) ≡ wide_after (settled t serve o)
settled-wide t None o = refl
settled-wide t (Some s) o =
    ap (λ entry. cond (has_ended o.thread.status) (record (finish t s (wide_out o)) { thread = waiting (home_of t) entry }) (only (Some s) (wide_out o))) (entry-wide o.environment.world (home_of t))
    ∙ by (has_ended o.thread.status)
  where
    by : (b : Bool) → cond b (wide_after (finish t s o)) (wide_after (only (Some s) o)) ≡ wide_after (cond b (finish t s o) (only (Some s) o))
    by true = refl
    by false = refl

-- the context of a request
module _ (w : World) (home : Name) (r : ℕ) where
  chosen_slot : (a b : Bool) (d : Descriptor) → cond a (Request r 0) (cond b (Reply r) (wide_descriptor d)) ≡ wide_descriptor (cond a (Request r 0) (cond b (Reply r) d))
  chosen_slot true b d = refl
  chosen_slot false true d = refl
  chosen_slot false false d = refl

  begun_value-wide : (k : Key) → begun_value (wide w) home r k ≡ wide_value k (begun_value w home r k)
  begun_value-wide (Page p) = page-wide w home p
  begun_value-wide (Slot n) = ap (λ d. cond (eqb n 0) (Request r 0) (cond (eqb n 1) (Reply r) d)) (slot-wide w home n) ∙ chosen_slot (eqb n 0) (eqb n 1) (slot_at w home n)
  begun_value-wide Cred = uid-wide w home

  begun-wide : begun_context (wide w) home r ≡ wide_context (begun_context w home r)
  unfolding begun_context
  begun-wide = λ i. record {
    cell = λ k. Own (begun_value-wide k i);
    right = (context-wide w home i).right;
    entry = (context-wide w home i).entry;
    saved = λ t. None;
  }

  pub begin-wide : begin (wide w) home r ≡ wide (begin w home r)
  unfolding begin
  begin-wide = add_context-wide w (r + 1) (begun_context w home r) (begun_context (wide w) home r) begun-wide

woken-wide : (t : ℕ) (serve : Option Serve) (e : Environment) (x : Thread) → woken t serve (wide_env e) x ≡ wide_after (woken t serve e x)
woken-wide t None e x = refl
woken-wide t (Some s) e x =
    (λ i. cond (nat_lt s.next (length e.channels.requests))
    (record {
      thread = serving s.next s.budget (entry-wide e.world (home_of t) i);
      environment = with_world e (begin-wide e.world (home_of t) s.next i);
      serve = Some (record s { next = s.next + 1 });
      finished = None;
    }) (only (Some s) (unchanged (wide_env e) (with_status x (status.Done 0)))))
    ∙ by (nat_lt s.next (length e.channels.requests))
  where
    by : (b : Bool) → cond b (wide_after (begin_next t s e)) (only (Some s) (unchanged (wide_env e) (with_status x (status.Done 0))))
        ≡ wide_after (cond b (begin_next t s e) (only (Some s) (unchanged e (with_status x (status.Done 0)))))
    by true = refl
    by false = refl

-- what the next step of a thread meets no limit of pages says of its advance
abbrev pub MeetsAt : ℕ → Environment → Thread → Advance → Type 0
MeetsAt t e x advance =
    (i : Instr) → advance.next ≡ next.Shared i → i.op ≡ Sys → (refusal_of i.imm t e (with_regs x advance.after) ≢ Some BadRange) × (i.imm ≡ LW_RESTRICT → refusal_of i.imm t e (with_regs x advance.after) ≢ None)

pub outcome-wide : (t : ℕ) (e : Environment) (serve : Option Serve) (text : List Instr) (x : Thread) (s : ThreadStatus) → (s ≡ status.Running → MayAct e.world x.context × MeetsAt t e x (advanced text x.regs)) →
    thread_outcome guest_calls t (wide_env e) serve text x s ≡ option_map wide_after (thread_outcome guest_calls t e serve text x s)
outcome-wide t e serve text x status.Running may =
    let facts = may refl in
    ap Some (ap (settled t serve) (advance-wide t e x facts.0 (advanced text x.regs) facts.1) ∙ settled-wide t serve (advance_outcome guest_calls t e x (advanced text x.regs)))
outcome-wide t e serve text x status.Idle may = ap Some (woken-wide t serve e x)
outcome-wide t e serve text x (status.Done code) may = refl
outcome-wide t e serve text x (status.Faulted f) may = refl

pub after-wide : (m : Machine) (t : ℕ) (o : Option AfterStep) → ((a : AfterStep) → o ≡ Some a → HasNoMore a.environment.world) →
    after_outcome (wide_machine m) t (option_map wide_after o) ≡ wide_machine (after_outcome m t o)
after-wide m t None ends = refl
after-wide m t (Some a) ends =
    ap (λ w. record m { threads = slice_set m.threads t a.thread; environment = with_world a.environment w; serve = a.serve })
    (reap-wide a.environment.world (ends a refl) (roots (slice_set m.threads t a.thread) a.serve))
