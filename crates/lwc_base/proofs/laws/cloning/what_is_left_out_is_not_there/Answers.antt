use Rattle.lwc_base.proofs.Clones.{clone-left_out, clone-left_out_apart, clone-reads_nothing}
use Rattle.lwc_base.proofs.laws.cloning.what_is_left_out_is_not_there.Goals as goal

pub returns-clause-own : goal.returns-clause-own
returns-clause-own c = clone-left_out

pub returns-clause-none : goal.returns-clause-none
returns-clause-none c = clone-reads_nothing

pub returns-clause-apart : goal.returns-clause-apart
returns-clause-apart c = clone-left_out_apart
