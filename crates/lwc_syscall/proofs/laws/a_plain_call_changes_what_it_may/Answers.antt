use Rattle.lwc_syscall.proofs.Only.{plain_only, syscall_only}
use Rattle.lwc_syscall.proofs.laws.a_plain_call_changes_what_it_may.Goals as goal

pub returns : goal.returns
returns c = record { plain = λ w io targets job call args. plain_only w io targets job args call; syscall = syscall_only }
