use Rattle.lwc_syscall.proofs.Jobs.{jobs-change}
use Rattle.lwc_syscall.proofs.Syscalls.{jobs-over}
use Rattle.lwc_syscall.proofs.laws.calls_keep_names_to_their_jobs.Goals as goal

pub returns : goal.returns
returns c = record {
  plain = jobs-change;
  syscall = λ w io d job regs live well keeps. jobs-over w io d job regs well.named well.files live (λ v after. jobs-change w io _ job v after) keeps;
}
