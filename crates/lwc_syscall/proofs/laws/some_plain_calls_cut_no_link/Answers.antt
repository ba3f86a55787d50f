use Rattle.lwc_syscall.proofs.Links.{plain-cuts, plain-leaves, syscall-cuts, syscall-leaves}
use Rattle.lwc_syscall.proofs.laws.some_plain_calls_cut_no_link.Goals as goal

pub returns : goal.returns
returns c = record { none = plain-cuts; same = plain-leaves; chosen_none = syscall-cuts; chosen_same = syscall-leaves }
