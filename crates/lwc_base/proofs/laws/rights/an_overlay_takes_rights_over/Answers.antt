use Rattle.lwc_base.proofs.Rights.{overlay-copied_right, overlay-other_rights, overlay-read_right, overlay-shared_right}
use Rattle.lwc_base.proofs.laws.rights.an_overlay_takes_rights_over.Goals as goal

pub returns-clause-copied : goal.returns-clause-copied
returns-clause-copied c = overlay-copied_right

pub returns-clause-shared : goal.returns-clause-shared
returns-clause-shared c = overlay-shared_right

pub returns-clause-read : goal.returns-clause-read
returns-clause-read c = overlay-read_right

pub returns-clause-others : goal.returns-clause-others
returns-clause-others c = overlay-other_rights
