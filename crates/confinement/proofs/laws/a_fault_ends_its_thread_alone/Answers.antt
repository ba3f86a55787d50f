use Rattle.confinement.proofs.Faults.{ends_alone}
use Rattle.confinement.proofs.laws.a_fault_ends_its_thread_alone.Goals as goal

pub returns : goal.returns
returns c = ends_alone
