-- What a thread does leaves its job.
use Rattle.std.proofs.Common.{◌≡◌, ℕ, ◌+◌, ◌*◌, refl, Bool, true, false, cond, eqb, leb, Option, Some, None, length}
use Rattle.guest_isa.specs.declared.instr.Instr.{Instr}
use Rattle.guest_isa.specs.declared.op.Op.{Op}
use Rattle.guest_isa.specs.declared.op.Op.TheVariants.{Li, Lih, Mov, Add, Sub, Mul, Divu, Remu, And, Or, Xor, Shl, Shr, Ltu, Eq, Addi, Jmp, Jz, Jnz, Jal, Jr, Ldb, Ldw, Stb, Stw, Sys, Halt}
use Rattle.guest_machine.specs.declared.progress.Advance.{Advance}
use Rattle.guest_machine.specs.declared.progress.Next.{Next}
use Rattle.guest_machine.specs.declared.progress.Next.TheVariants as next
use Rattle.kernel_core.specs.Machine.{Environment}
use Rattle.kernel_core.specs.Step as steps
use Rattle.kernel_core.specs.Step.{Outcome, address, answered, args_of, guest_calls, is_aligned, loaded, plainly, switched, three_times, with_regs}
use Rattle.kernel_core.specs.declared.thread.Thread.{Thread}
use Rattle.kernel_core.specs.declared.calling.TheConstants.{LW_CREATE, LW_OVERLAY, LW_RESTRICT, LW_SWITCH, LW_SYSCALL}
use Rattle.lwc_base.specs.Store.{Piece, Stored, Absent, ReadOnly, Full, Done, store}
use Rattle.lwc_base.specs.declared.answer.Answer.{Answer}
use Rattle.lwc_base.specs.declared.answer.Answer.TheVariants as answer
use Rattle.lwc_base.specs.declared.answer.Moved.{Moved}
use Rattle.lwc_base.specs.declared.answer.Moved.TheVariants as moved
use Rattle.lwc_types.specs.declared.page.TheConstants.{PAGE_BYTES}
use Rattle.lwc_create.specs.Create.{create}
use Rattle.lwc_overlay.specs.OverlayCall.{overlay}
use Rattle.lwc_overlay.specs.RestrictCall.{restrict}
use Rattle.lwc_switch.specs.Switch.{switch}
use Rattle.lwc_syscall.specs.Plain.{plain, plain_call}
use Rattle.lwc_syscall.specs.Syscall.{lw_syscall}
use Rattle.lwc_syscall.specs.declared.answer.CallAnswer.{CallAnswer}
use Rattle.lwc_syscall.specs.declared.answer.CallAnswer.TheVariants as ends

either : (job : ℕ) (b : Bool) (o p : Outcome) → o.thread.job ≡ job → p.thread.job ≡ job → (cond b o p).thread.job ≡ job
either job true o p one two = one
either job false o p one two = two

module _ (t : ℕ) (e : Environment) where
  loaded-job : (x : Thread) (d : ℕ) (value : Option ℕ) → (loaded x d value).job ≡ x.job
  loaded-job x d None = refl
  loaded-job x d (Some value) = refl

  answered-job : (x : Thread) (a : Answer) → (answered x a).job ≡ x.job
  answered-job x (answer.Done regs) = refl
  answered-job x (answer.Refused refusal) = refl

  switched-job : (x : Thread) (m : Moved) → (switched x m).job ≡ x.job
  switched-job x (moved.To c regs) = refl
  switched-job x (moved.Refused refusal) = refl

  plainly-job : (x : Thread) (a : CallAnswer) → (plainly x a).job ≡ x.job
  plainly-job x (ends.Value value) = refl
  plainly-job x (ends.Exit code) = refl
  plainly-job x (ends.Refused refusal) = refl

  stored-job : (x : Thread) (s : Stored) → (steps.stored_outcome e x s).thread.job ≡ x.job
  stored-job x Absent = refl
  stored-job x ReadOnly = refl
  stored-job x Full = refl
  stored-job x (Done w) = refl

  store-job : (x : Thread) (piece : Piece) → (steps.store_outcome e x piece).thread.job ≡ x.job
  unfolding steps.store_outcome
  store-job x piece = either x.job (leb (piece.at + length piece.bytes) (e.world.size.pages * PAGE_BYTES)) _ _ (stored-job x (store e.world x.context x.job piece)) refl

  calls-job : (number : ℕ) (x : Thread) → (guest_calls number t e x).thread.job ≡ x.job
  unfolding guest_calls
  calls-job number x =
      either x.job (eqb number LW_CREATE) _ _ (answered-job x (create e.world x.context x.job x.regs).0)
      (either x.job (eqb number LW_SWITCH) _ _ (switched-job x (switch e.world x.context t x.regs).0)
      (either x.job (eqb number LW_RESTRICT) _ _ (answered-job x (restrict e.world x.context x.regs).0)
      (either x.job (eqb number LW_OVERLAY) _ _ (answered-job x (overlay e.world x.context x.job x.regs).0)
      (either x.job (eqb number LW_SYSCALL) _ _ (plainly-job x (lw_syscall e.world e.channels x.context x.job x.regs).answer)
      (plainly-job x (plain e.world e.channels (three_times x.context) x.job (plain_call number) (args_of x.regs)).answer)))))

  shared-job : (x : Thread) (j : Instr) (op : Op) → (steps.shared_outcome guest_calls t e x j op).thread.job ≡ x.job
  unfolding steps.shared_outcome
  shared-job x j Ldb = loaded-job x j.rd (steps.byte_for e.world x.context (address x.regs j))
  shared-job x j Ldw = loaded-job x j.rd (steps.word_for e.world x.context (address x.regs j))
  shared-job x j Stb = store-job x _
  shared-job x j Stw = either x.job (is_aligned (address x.regs j)) _ _ (store-job x _) refl
  shared-job x j Sys = calls-job j.imm x
  shared-job x j Halt = refl
  shared-job x j Li = refl
  shared-job x j Lih = refl
  shared-job x j Mov = refl
  shared-job x j Add = refl
  shared-job x j Sub = refl
  shared-job x j Mul = refl
  shared-job x j Divu = refl
  shared-job x j Remu = refl
  shared-job x j And = refl
  shared-job x j Or = refl
  shared-job x j Xor = refl
  shared-job x j Shl = refl
  shared-job x j Shr = refl
  shared-job x j Ltu = refl
  shared-job x j Eq = refl
  shared-job x j Addi = refl
  shared-job x j Jmp = refl
  shared-job x j Jz = refl
  shared-job x j Jnz = refl
  shared-job x j Jal = refl
  shared-job x j Jr = refl

  next-job : (x : Thread) (n : Next) → (steps.next_outcome guest_calls t e x n).thread.job ≡ x.job
  unfolding steps.next_outcome
  next-job x next.Pause = refl
  next-job x next.BadPc = refl
  next-job x (next.Shared j) = shared-job x j j.op

  pub advance-job : (x : Thread) (a : Advance) → (steps.advance_outcome guest_calls t e x a).thread.job ≡ x.job
  unfolding steps.advance_outcome
  advance-job x a = next-job (with_regs x a.after) a.next
