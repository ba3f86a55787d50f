use Rattle.lwc_vault.proofs.Stepping.{step-blank}
use Rattle.lwc_vault.proofs.laws.a_step_outside_is_the_same_step.Goals as goal

pub returns : goal.returns
returns c = step-blank
