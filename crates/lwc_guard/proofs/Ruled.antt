-- What comes next, by the ruling on it.
use Rattle.std.proofs.Common.{◌≡◌, ◌≢◌, ◌-◌, ℕ, refl, sym, ap, subst, ◌∙◌, Option, Some, None, List}
use Rattle.std.specs.FinMap as fm
use Rattle.guest_isa.specs.declared.instr.Instr.{Instr}
use Rattle.guest_isa.specs.declared.op.Op.{Op}
use Rattle.guest_isa.specs.declared.op.Op.TheVariants.{Sys}
use Rattle.guest_machine.specs.Advances.{advanced}
use Rattle.guest_machine.specs.declared.progress.Advance.{Advance}
use Rattle.guest_machine.specs.declared.progress.Next.{Next}
use Rattle.guest_machine.specs.declared.progress.Next.TheVariants as next
use Rattle.kernel_core.specs.Changes.{after_effect, made}
use Rattle.kernel_core.specs.Machine.{Environment}
use Rattle.kernel_core.specs.Step.{AfterStep, Calls, Outcome, advance_outcome, counted, next_outcome, only, shared_outcome, thread_outcome, unchanged, with_regs, with_steps}
use Rattle.kernel_core.specs.declared.acting.Change.{Change}
use Rattle.kernel_core.specs.declared.acting.Effect.{Effect}
use Rattle.kernel_core.specs.declared.thread.Thread.{Thread}
use Rattle.lwc_guard.specs.Calls.{calls_guarded, guards_after_call}
use Rattle.lwc_guard.specs.Guards.{Guards}
use Rattle.lwc_guard.specs.Rulings.{next_ruled, ruled, ruled_or_not}
use Rattle.lwc_guard.specs.Steps.{Left, left_by, left_of, left_running}
use Rattle.lwc_guard.specs.declared.calling.Ruling.{Ruling}
use Rattle.lwc_guard.specs.declared.guard.Guard.{Guard}
use Rattle.lwc_monitor.proofs.Rulings.{a_call, no_call}
use Rattle.lwc_monitor.specs.Calls.{calls_under}
use Rattle.lwc_monitor.specs.Steps.{call_in, call_next}
use Rattle.lwc_monitor.specs.Traps.{Traps}
use Rattle.lwc_types.specs.declared.fault.ThreadStatus.TheVariants as status

-- a call that comes next
pub call-is : (n : Next) (i : Instr) → n ≡ next.Shared i → i.op ≡ Sys → call_next n ≡ Some i.imm
call-is n i is op = ap call_next is ∙ ap (λ (o : Op). call_in o i.imm) op

pub called : (calls : Calls) (t : ℕ) (e : Environment) (x : Thread) (n : Next) (i : Instr) → n ≡ next.Shared i → i.op ≡ Sys → next_outcome calls t e x n ≡ calls i.imm t e x
called calls t e x n i is op = ap (next_outcome calls t e x) is ∙ a_call calls t e x i op

-- no call that comes next is the same by each table
pub uncalled : (first second : Calls) (t : ℕ) (e : Environment) (x : Thread) (n : Next) (i : Instr) → n ≡ next.Shared i → i.op ≢ Sys → next_outcome first t e x n ≡ next_outcome second t e x n
unfolding next_outcome
uncalled first second t e x n i is other = ap (next_outcome first t e x) is ∙ no_call first second t e x i i.op other ∙ sym (ap (next_outcome second t e x) is)

pub ruled-next : (traps : Traps) (r : Option Ruling) (t : ℕ) (e : Environment) (x : Thread) (n : Next) (i : Instr) → n ≡ next.Shared i → i.op ≡ Sys → ruled_or_not traps r i.imm t e x ≡ next_ruled traps r t e x n
ruled-next traps None t e x n i is op = sym (called (calls_under traps) t e x n i is op)
ruled-next traps (Some ruling) t e x n i is op = refl
