use Rattle.lwc_base.proofs.Facts.{counts}
use Rattle.lwc_base.proofs.laws.facts.live_names_are_counted.Goals as goal

pub returns : goal.returns
returns c = counts
