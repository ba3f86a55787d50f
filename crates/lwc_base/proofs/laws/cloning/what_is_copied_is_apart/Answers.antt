use Rattle.lwc_base.proofs.Clones.{clone-copied, clone-copied_apart, clone-reads_copied}
use Rattle.lwc_base.proofs.laws.cloning.what_is_copied_is_apart.Goals as goal

pub returns-clause-own : goal.returns-clause-own
returns-clause-own c = clone-copied

pub returns-clause-same : goal.returns-clause-same
returns-clause-same c = clone-reads_copied

pub returns-clause-apart : goal.returns-clause-apart
returns-clause-apart c = clone-copied_apart
