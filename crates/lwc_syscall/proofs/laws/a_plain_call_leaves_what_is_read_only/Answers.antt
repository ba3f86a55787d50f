use Rattle.lwc_syscall.proofs.ReadOnly.{plain_keeps, syscall_keeps}
use Rattle.lwc_syscall.proofs.laws.a_plain_call_leaves_what_is_read_only.Goals as goal

pub returns : goal.returns
returns c = record { plain = plain_keeps; syscall = syscall_keeps }
