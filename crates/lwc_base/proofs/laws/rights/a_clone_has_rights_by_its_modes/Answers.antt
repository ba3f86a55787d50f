use Rattle.lwc_base.proofs.Rights.{clone-copied_right, clone-other_rights, clone-read_right, clone-shared_right}
use Rattle.lwc_base.proofs.laws.rights.a_clone_has_rights_by_its_modes.Goals as goal

pub returns-clause-copied : goal.returns-clause-copied
returns-clause-copied c = clone-copied_right

pub returns-clause-shared : goal.returns-clause-shared
returns-clause-shared c = clone-shared_right

pub returns-clause-read : goal.returns-clause-read
returns-clause-read c = clone-read_right

pub returns-clause-others : goal.returns-clause-others
returns-clause-others c = clone-other_rights
