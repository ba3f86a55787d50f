use Rattle.lwc_overlay.proofs.Rest.{taken_leaves}
use Rattle.lwc_overlay.proofs.laws.an_overlay_leaves_the_rest.Goals as goal

pub returns : goal.returns
returns c = taken_leaves
