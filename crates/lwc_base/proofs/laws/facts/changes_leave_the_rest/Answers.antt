use Rattle.lwc_base.proofs.Facts.{changes}
use Rattle.lwc_base.proofs.laws.facts.changes_leave_the_rest.Goals as goal

pub returns : goal.returns
returns c = changes
