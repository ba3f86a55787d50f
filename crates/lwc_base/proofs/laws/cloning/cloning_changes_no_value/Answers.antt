use Rattle.lwc_base.proofs.Clones.{clone-reads}
use Rattle.lwc_base.proofs.laws.cloning.cloning_changes_no_value.Goals as goal

pub returns : goal.returns
returns c = clone-reads
