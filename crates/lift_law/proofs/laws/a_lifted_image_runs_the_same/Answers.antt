use Rattle.lift_law.proofs.Lifted.{runs_lifted}
use Rattle.lift_law.proofs.laws.a_lifted_image_runs_the_same.Goals as goal

pub returns : goal.returns
returns c = runs_lifted
