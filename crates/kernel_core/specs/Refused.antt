-- Calls of guests that are refused.
use Rattle.std.specs.Prelude.{◌≡◌, ◌⊎◌, ◌<◌, ℕ, ◌-◌, ◌==◌, if◌then◌else◌, Option, None, Some, slice_get, slice_set}
use Rattle.guest_isa.specs.declared.instr.Instr.{Instr}
use Rattle.guest_isa.specs.declared.op.Op.TheVariants.{Sys}
use Rattle.guest_machine.specs.Advances.{advanced}
use Rattle.guest_machine.specs.declared.progress.Next.TheVariants.{Shared}
use Rattle.kernel_core.specs.Machine.{Environment, Machine}
use Rattle.kernel_core.specs.Step.{args_of, refused, three_times, with_regs, with_steps}
use Rattle.kernel_core.specs.declared.calling.TheConstants.{LW_CREATE, LW_OVERLAY, LW_RESTRICT, LW_SWITCH, LW_SYSCALL}
use Rattle.kernel_core.specs.declared.thread.Thread.{Thread}
use Rattle.lwc_base.specs.declared.answer.Answer.{Answer}
use Rattle.lwc_base.specs.declared.answer.Answer.TheVariants as answer
use Rattle.lwc_base.specs.declared.answer.Moved.{Moved}
use Rattle.lwc_base.specs.declared.answer.Moved.TheVariants as moved
use Rattle.lwc_types.specs.declared.fault.ThreadStatus.TheVariants.{Running}
use Rattle.lwc_types.specs.declared.refusal.Refusal.{Refusal}
use Rattle.lwc_create.specs.Create.{create}
use Rattle.lwc_overlay.specs.OverlayCall.{overlay}
use Rattle.lwc_overlay.specs.RestrictCall.{restrict}
use Rattle.lwc_switch.specs.Switch.{switch}
use Rattle.lwc_syscall.specs.Plain.{plain, plain_call}
use Rattle.lwc_syscall.specs.Syscall.{lw_syscall}
use Rattle.lwc_syscall.specs.declared.answer.CallAnswer.{CallAnswer}
use Rattle.lwc_syscall.specs.declared.answer.CallAnswer.TheVariants as ends

-- the refusal that an answer is, if it is one
abbrev pub refusal_in : Answer → Option Refusal
refusal_in (answer.Done regs) = None
refusal_in (answer.Refused refusal) = Some refusal

-- the refusal that the answer of a switch is
abbrev pub refusal_to_move : Moved → Option Refusal
refusal_to_move (moved.To context regs) = None
refusal_to_move (moved.Refused refusal) = Some refusal

-- the refusal that the answer of a plain call is
abbrev pub refusal_at_end : CallAnswer → Option Refusal
refusal_at_end (ends.Value value) = None
refusal_at_end (ends.Exit code) = None
refusal_at_end (ends.Refused refusal) = Some refusal

-- why the call of a number is refused, if it is
unfoldable pub refusal_of : ℕ → ℕ → Environment → Thread → Option Refusal
refusal_of number t e x =
    if number == LW_CREATE then refusal_in (create e.world x.context x.job x.regs).0
    else (if number == LW_SWITCH then refusal_to_move (switch e.world x.context t x.regs).0
    else (if number == LW_RESTRICT then refusal_in (restrict e.world x.context x.regs).0
    else (if number == LW_OVERLAY then refusal_in (overlay e.world x.context x.job x.regs).0
    else (if number == LW_SYSCALL
    then refusal_at_end (lw_syscall e.world e.channels x.context x.job x.regs).answer
    else refusal_at_end
    (plain e.world e.channels (three_times x.context) x.job (plain_call number) (args_of x.regs)).answer))))

-- a thread as it is when its next shared instruction comes
abbrev pub advanced_thread : Machine → Thread → Thread
advanced_thread m x = with_regs x (advanced m.text x.regs).after

-- the running thread of a number comes to a call that is refused
pub record ComesToRefusal (m : Machine) (t : ℕ) (x : Thread) (i : Instr) (refusal : Refusal) : Type 0 where
  pub found : slice_get m.threads t ≡ Some x
  pub running : x.status ≡ Running
  pub next : (advanced m.text x.regs).next ≡ Shared i
  pub call : i.op ≡ Sys
  pub refused : refusal_of i.imm t m.environment (advanced_thread m x) ≡ Some refusal

-- the thread once this call is refused: after its private instructions it has another r0, pc and budget, and
-- ends if that is used up
abbrev pub thread_refused : Machine → Thread → Refusal → Thread
thread_refused m x refusal = with_steps (x.budget - 1) (refused (advanced_thread m x) refusal)

-- the step is not the last one of the budget of a request
abbrev pub IsNotLast : Machine → Thread → Type 0
IsNotLast m x = (m.serve ≡ None) ⊎ (1 < x.budget)

-- a machine once this call is refused: its thread has changed, and nothing else
abbrev pub after_refusal : Machine → ℕ → Thread → Refusal → Machine
after_refusal m t x refusal = record m { threads = slice_set m.threads t (thread_refused m x refusal) }
