use Rattle.lwc_overlay.proofs.Rest.{uncovered_leaves}
use Rattle.lwc_overlay.proofs.laws.an_overlay_changes_only_keys_of_its_capability.Goals as goal

pub returns : goal.returns
returns c = uncovered_leaves
