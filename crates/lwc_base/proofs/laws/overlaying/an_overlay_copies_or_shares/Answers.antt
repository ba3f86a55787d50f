use Rattle.lwc_base.proofs.Overlays.{overlay-apart, overlay-common, overlay-copied, overlay-copied_value, overlay-shared_value}
use Rattle.lwc_base.proofs.laws.overlaying.an_overlay_copies_or_shares.Goals as goal

pub returns-clause-copied : goal.returns-clause-copied
returns-clause-copied c = overlay-copied

pub returns-clause-apart : goal.returns-clause-apart
returns-clause-apart c = overlay-apart

pub returns-clause-copied_value : goal.returns-clause-copied_value
returns-clause-copied_value c = overlay-copied_value

pub returns-clause-shared_value : goal.returns-clause-shared_value
returns-clause-shared_value c = overlay-shared_value

pub returns-clause-common : goal.returns-clause-common
returns-clause-common c = overlay-common
