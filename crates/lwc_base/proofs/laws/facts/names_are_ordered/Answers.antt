use Rattle.lwc_base.proofs.Facts.{orders}
use Rattle.lwc_base.proofs.laws.facts.names_are_ordered.Goals as goal

pub returns : goal.returns
returns c = orders
