use Rattle.lwc_base.proofs.Clones.{clone-keeps_common}
use Rattle.lwc_base.proofs.Overlays.{overlay-keeps_common}
use Rattle.lwc_base.proofs.Reaped.{reap-common}
use Rattle.lwc_base.proofs.Saving.{save-common}
use Rattle.lwc_base.proofs.laws.apart.what_is_common_stays_common.Goals as goal

pub returns-clause-clone : goal.returns-clause-clone
returns-clause-clone c = clone-keeps_common

pub returns-clause-save : goal.returns-clause-save
returns-clause-save c w a b k both d t regs = save-common w d t regs a b k both

pub returns-clause-reap : goal.returns-clause-reap
returns-clause-reap c w a b k both roots within live_a live_b = reap-common w roots a b k within live_a live_b both

pub returns-clause-overlay : goal.returns-clause-overlay
returns-clause-overlay c = overlay-keeps_common
