use Rattle.lwc_vault.proofs.Shapes.{tells-nothing}
use Rattle.lwc_vault.proofs.laws.vaults_of_one_shape_tell_the_same.Goals as goal

pub returns : goal.returns
returns c = tells-nothing
