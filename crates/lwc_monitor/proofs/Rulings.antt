-- What comes next, by the ruling on it.
use Rattle.std.proofs.Common.{◌≡◌, ◌≢◌, ℕ, ap, refl}
use Rattle.guest_isa.specs.declared.instr.Instr.{Instr}
use Rattle.guest_isa.specs.declared.op.Op.{Op}
use Rattle.guest_isa.specs.declared.op.Op.TheVariants.{Sys}
use Rattle.guest_machine.specs.declared.progress.Next.TheVariants as next
use Rattle.kernel_core.specs.Machine.{Environment}
use Rattle.kernel_core.specs.Step.{Calls, next_outcome, shared_outcome}
use Rattle.kernel_core.specs.declared.thread.Thread.{Thread}

-- an instruction that is no call is done in the same way under each table
pub no_call : (first second : Calls) (t : ℕ) (e : Environment) (x : Thread) (i : Instr) (op : Op) → op ≢ Sys → shared_outcome first t e x i op ≡ shared_outcome second t e x i op
unfolding shared_outcome
no_call first second t e x i Sys other = absurd (other refl)
no_call first second t e x i _ other = refl

-- a call is what the table says of it
pub a_call : (calls : Calls) (t : ℕ) (e : Environment) (x : Thread) (i : Instr) → i.op ≡ Sys → next_outcome calls t e x (next.Shared i) ≡ calls i.imm t e x
unfolding next_outcome shared_outcome
a_call calls t e x i is = ap (shared_outcome calls t e x i) is
