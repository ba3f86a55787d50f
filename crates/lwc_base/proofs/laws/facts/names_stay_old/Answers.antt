use Rattle.lwc_base.proofs.Facts.{stays_fresh}
use Rattle.lwc_base.proofs.laws.facts.names_stay_old.Goals as goal

pub returns : goal.returns
returns c = stays_fresh
