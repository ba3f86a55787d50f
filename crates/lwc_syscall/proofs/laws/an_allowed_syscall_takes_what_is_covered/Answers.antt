use Rattle.lwc_syscall.proofs.Syscalls.{allowed}
use Rattle.lwc_syscall.proofs.laws.an_allowed_syscall_takes_what_is_covered.Goals as goal

pub returns : goal.returns
returns c = allowed
