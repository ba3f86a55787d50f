use Rattle.lwc_syscall.proofs.Covered.{holder-covered}
use Rattle.lwc_syscall.proofs.laws.a_syscall_changes_only_keys_of_its_capability.Goals as goal

pub returns : goal.returns
returns c = holder-covered
