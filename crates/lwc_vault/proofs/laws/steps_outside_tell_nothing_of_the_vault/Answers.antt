use Rattle.lwc_vault.proofs.Shapes.{blank-tells}
use Rattle.lwc_vault.proofs.laws.steps_outside_tell_nothing_of_the_vault.Goals as goal

pub returns : goal.returns
returns c = blank-tells
