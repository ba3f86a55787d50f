use Rattle.lwc_syscall.proofs.Refused.{plain-done, syscall-done}
use Rattle.lwc_syscall.proofs.laws.a_refused_call_changes_nothing.Goals as goal

pub returns : goal.returns
returns c = record { plain = plain-done; syscall = syscall-done }
