use Rattle.lwc_base.proofs.Clones.{clone-others, clone-unshared}
use Rattle.lwc_base.proofs.laws.cloning.only_what_is_shared_becomes_common.Goals as goal

pub returns-clause-kept : goal.returns-clause-kept
returns-clause-kept c = clone-unshared

pub returns-clause-others : goal.returns-clause-others
returns-clause-others c = clone-others
