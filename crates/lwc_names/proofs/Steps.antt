-- One step of a machine, under other numbers.
use Rattle.std.proofs.Common.{◌≡◌, ℕ, ◌+◌, ◌-◌, ◌*◌, refl, ap, ◌∙◌, cond, eqb, leb, Option, Some, None, length}
use Rattle.std.specs.Prelude.{slice_index}
use Rattle.std.specs.Int.{w64, from_le_bytes}
use Rattle.std.specs.Option.{option_map}
use Rattle.guest_isa.specs.declared.instr.Instr.{Instr}
use Rattle.guest_isa.specs.declared.op.Op.{Op}
use Rattle.guest_isa.specs.declared.op.Op.TheVariants.{Li, Lih, Mov, Add, Sub, Mul, Divu, Remu, And, Or, Xor, Shl, Shr, Ltu, Eq, Addi, Jmp, Jz, Jnz, Jal, Jr, Ldb, Ldw, Stb, Stw, Sys, Halt}
use Rattle.guest_machine.specs.declared.progress.Advance.{Advance}
use Rattle.guest_machine.specs.declared.progress.Next.{Next}
use Rattle.guest_machine.specs.declared.progress.Next.TheVariants as next
use Rattle.kernel_core.specs.Machine.{Environment}
use Rattle.kernel_core.specs.Step as steps
use Rattle.kernel_core.specs.Step.{AfterStep, Outcome, address, answered, args_of, guest_calls, is_aligned, loaded, plainly, step, step_by, switched, three_times, with_regs, with_steps, with_world}
use Rattle.kernel_core.specs.declared.thread.Thread.{Thread}
use Rattle.kernel_core.specs.declared.calling.TheConstants.{LW_CREATE, LW_OVERLAY, LW_RESTRICT, LW_SWITCH, LW_SYSCALL}
use Rattle.lwc_base.specs.Store.{Piece, Stored, Absent, ReadOnly, Full, Done, store}
use Rattle.lwc_base.specs.World.{World}
use Rattle.lwc_base.specs.declared.answer.Answer.{Answer}
use Rattle.lwc_base.specs.declared.answer.Answer.TheVariants as answer
use Rattle.lwc_base.specs.declared.answer.Moved.{Moved}
use Rattle.lwc_base.specs.declared.answer.Moved.TheVariants as moved
use Rattle.lwc_types.specs.declared.fault.Fault.TheVariants as fault
use Rattle.lwc_types.specs.declared.page.TheConstants.{PAGE_BYTES}
use Rattle.lwc_create.specs.Create.{create}
use Rattle.lwc_names.proofs.Answers.{shifted_end, shifted_moved, shifted_stored}
use Rattle.lwc_names.proofs.Outcomes.{shifted_outcome}
use Rattle.lwc_names.proofs.Asks.{bytes_for-shifted}
use Rattle.lwc_names.proofs.Creates.{create-shifted}
use Rattle.lwc_names.proofs.Links.{overlay_call-shifted, restrict-shifted, switch-shifted}
use Rattle.lwc_names.proofs.Plains.{pick, plain-shifted, syscall-shifted}
use Rattle.lwc_names.proofs.Stores.{store-shifted}
use Rattle.lwc_names.specs.Machines.{shifted_environment, shifted_thread}
use Rattle.lwc_names.specs.Shifts.{shifted_name, shifted_world}
use Rattle.lwc_overlay.specs.OverlayCall.{overlay}
use Rattle.lwc_overlay.specs.RestrictCall.{restrict}
use Rattle.lwc_switch.specs.Switch.{switch}
use Rattle.lwc_syscall.specs.Plain as calls
use Rattle.lwc_syscall.specs.Plain.{plain, plain_call}
use Rattle.lwc_syscall.specs.Syscall.{lw_syscall}
use Rattle.lwc_syscall.specs.declared.answer.CallAnswer.{CallAnswer}
use Rattle.lwc_syscall.specs.declared.answer.CallAnswer.TheVariants as ends

module _ (r : ℕ) where
  -- what a thread gets
  loaded-shifted : (x : Thread) (d : ℕ) (value : Option ℕ) → loaded (shifted_thread r x) d value ≡ shifted_thread r (loaded x d value)
  loaded-shifted x d None = refl
  loaded-shifted x d (Some value) = refl

  answered-shifted : (x : Thread) (a : Answer) → answered (shifted_thread r x) a ≡ shifted_thread r (answered x a)
  answered-shifted x (answer.Done regs) = refl
  answered-shifted x (answer.Refused refusal) = refl

  switched-shifted : (x : Thread) (m : Moved) → switched (shifted_thread r x) (shifted_moved r m) ≡ shifted_thread r (switched x m)
  switched-shifted x (moved.To c regs) = refl
  switched-shifted x (moved.Refused refusal) = refl

  plainly-shifted : (x : Thread) (a : CallAnswer) → plainly (shifted_thread r x) a ≡ shifted_thread r (plainly x a)
  plainly-shifted x (ends.Value value) = refl
  plainly-shifted x (ends.Exit code) = refl
  plainly-shifted x (ends.Refused refusal) = refl

  stored-shifted : (e : Environment) (x : Thread) (s : Stored) → steps.stored_outcome (shifted_environment r e) (shifted_thread r x) (shifted_stored r s) ≡ shifted_outcome r (steps.stored_outcome e x s)
  stored-shifted e x Absent = refl
  stored-shifted e x ReadOnly = refl
  stored-shifted e x Full = refl
  stored-shifted e x (Done w) = refl

  size-shifted : (w : World) → (shifted_world r w).size ≡ w.size
  unfolding shifted_world
  size-shifted w = refl

  module _ (t : ℕ) (e : Environment) where
    store-of : (x : Thread) (piece : Piece) → steps.store_outcome (shifted_environment r e) (shifted_thread r x) piece ≡ shifted_outcome r (steps.store_outcome e x piece)
    unfolding steps.store_outcome
    store-of x piece =
        (λ i. cond (leb (piece.at + length piece.bytes) ((size-shifted e.world i).pages * PAGE_BYTES)) (steps.stored_outcome (shifted_environment r e) (shifted_thread r x) (store-shifted r x.context e.world x.job piece i)) (steps.unchanged (shifted_environment r e) (steps.faulted (shifted_thread r x) fault.BadStore)))
        ∙ pick (shifted_outcome r) (leb (piece.at + length piece.bytes) (e.world.size.pages * PAGE_BYTES)) (steps.stored_outcome e x (store e.world x.context x.job piece)) (steps.unchanged e (steps.faulted x fault.BadStore)) _ _ (stored-shifted e x (store e.world x.context x.job piece)) refl

    -- calls
    call-of : (x : Thread) (made other : Answer × World) → other ≡ (made.0, shifted_world r made.1) → steps.call_outcome (shifted_environment r e) (shifted_thread r x) other ≡ shifted_outcome r (steps.call_outcome e x made)
    call-of x made other same =
        ap (steps.call_outcome (shifted_environment r e) (shifted_thread r x)) same
        ∙ (λ i. record { thread = answered-shifted x made.0 i; environment = shifted_environment r (with_world e made.1) })

    switch-of : (x : Thread) → steps.switch_outcome t (shifted_environment r e) (shifted_thread r x) ≡ shifted_outcome r (steps.switch_outcome t e x)
    switch-of x =
        let made = switch e.world x.context t x.regs in
        ap (λ (result : Moved × World). steps.unchanged (with_world (shifted_environment r e) result.1) (switched (shifted_thread r x) result.0)) (switch-shifted r e.world x.context x.regs t)
        ∙ (λ i. record { thread = switched-shifted x made.0 i; environment = shifted_environment r (with_world e made.1) })

    ended-of : (x : Thread) (made other : calls.Outcome) → other ≡ shifted_end r made → steps.ended_outcome (shifted_thread r x) other ≡ shifted_outcome r (steps.ended_outcome x made)
    ended-of x made other same =
        ap (steps.ended_outcome (shifted_thread r x)) same
        ∙ (λ i. record { thread = plainly-shifted x made.answer i; environment = shifted_environment r (steps.beside made.world made.io) })

    calls-shifted : (number : ℕ) (x : Thread) → guest_calls number t (shifted_environment r e) (shifted_thread r x) ≡ shifted_outcome r (guest_calls number t e x)
    unfolding guest_calls
    calls-shifted number x =
        pick (shifted_outcome r) (eqb number LW_CREATE) _ _ _ _ (call-of x (create e.world x.context x.job x.regs) _ (create-shifted r e.world x.context x.job x.regs))
        (pick (shifted_outcome r) (eqb number LW_SWITCH) _ _ _ _ (switch-of x)
        (pick (shifted_outcome r) (eqb number LW_RESTRICT) _ _ _ _ (call-of x (restrict e.world x.context x.regs) _ (restrict-shifted r e.world x.context x.regs))
        (pick (shifted_outcome r) (eqb number LW_OVERLAY) _ _ _ _ (call-of x (overlay e.world x.context x.job x.regs) _ (overlay_call-shifted r e.world x.context x.regs x.job))
        (pick (shifted_outcome r) (eqb number LW_SYSCALL) _ _ _ _ (ended-of x (lw_syscall e.world e.channels x.context x.job x.regs) _ (syscall-shifted r e.channels e.world x.context x.regs x.job))
        (ended-of x (plain e.world e.channels (three_times x.context) x.job (plain_call number) (args_of x.regs)) _ (plain-shifted r e.channels e.world (three_times x.context) x.job (plain_call number) (args_of x.regs)))))))

    -- instructions
    byte-of : (x : Thread) (at : ℕ) → steps.byte_for (shifted_world r e.world) (shifted_name r x.context) at ≡ steps.byte_for e.world x.context at
    byte-of x at = ap (option_map (λ bytes. slice_index bytes 0)) (bytes_for-shifted r e.world x.context at 1)

    word-of : (x : Thread) (at : ℕ) → steps.word_for (shifted_world r e.world) (shifted_name r x.context) at ≡ steps.word_for e.world x.context at
    word-of x at = λ i. cond (is_aligned at) (option_map (from_le_bytes w64) (bytes_for-shifted r e.world x.context at 8 i)) None

    shared-shifted : (x : Thread) (j : Instr) (op : Op) → steps.shared_outcome guest_calls t (shifted_environment r e) (shifted_thread r x) j op ≡ shifted_outcome r (steps.shared_outcome guest_calls t e x j op)
    unfolding steps.shared_outcome
    shared-shifted x j Ldb =
        ap (λ value. steps.unchanged (shifted_environment r e) (loaded (shifted_thread r x) j.rd value)) (byte-of x (address x.regs j))
        ∙ ap (steps.unchanged (shifted_environment r e)) (loaded-shifted x j.rd (steps.byte_for e.world x.context (address x.regs j)))
    shared-shifted x j Ldw =
        ap (λ value. steps.unchanged (shifted_environment r e) (loaded (shifted_thread r x) j.rd value)) (word-of x (address x.regs j))
        ∙ ap (steps.unchanged (shifted_environment r e)) (loaded-shifted x j.rd (steps.word_for e.world x.context (address x.regs j)))
    shared-shifted x j Stb = store-of x _
    shared-shifted x j Stw = pick (shifted_outcome r) (is_aligned (address x.regs j)) _ _ _ _ (store-of x _) refl
    shared-shifted x j Sys = calls-shifted j.imm x
    shared-shifted x j Halt = refl
    shared-shifted x j Li = refl
    shared-shifted x j Lih = refl
    shared-shifted x j Mov = refl
    shared-shifted x j Add = refl
    shared-shifted x j Sub = refl
    shared-shifted x j Mul = refl
    shared-shifted x j Divu = refl
    shared-shifted x j Remu = refl
    shared-shifted x j And = refl
    shared-shifted x j Or = refl
    shared-shifted x j Xor = refl
    shared-shifted x j Shl = refl
    shared-shifted x j Shr = refl
    shared-shifted x j Ltu = refl
    shared-shifted x j Eq = refl
    shared-shifted x j Addi = refl
    shared-shifted x j Jmp = refl
    shared-shifted x j Jz = refl
    shared-shifted x j Jnz = refl
    shared-shifted x j Jal = refl
    shared-shifted x j Jr = refl

    next-shifted : (x : Thread) (n : Next) → steps.next_outcome guest_calls t (shifted_environment r e) (shifted_thread r x) n ≡ shifted_outcome r (steps.next_outcome guest_calls t e x n)
    unfolding steps.next_outcome
    next-shifted x next.Pause = refl
    next-shifted x next.BadPc = refl
    next-shifted x (next.Shared j) = shared-shifted x j j.op

    pub advance-shifted : (x : Thread) (a : Advance) → steps.advance_outcome guest_calls t (shifted_environment r e) (shifted_thread r x) a ≡ shifted_outcome r (steps.advance_outcome guest_calls t e x a)
    unfolding steps.advance_outcome
    advance-shifted x a = ap (steps.counted (x.budget - 1)) (next-shifted (with_regs x a.after) a.next)
