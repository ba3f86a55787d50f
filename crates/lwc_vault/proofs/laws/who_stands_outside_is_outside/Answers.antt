use Rattle.lwc_vault.proofs.Staying.{acts-outside}
use Rattle.lwc_vault.proofs.laws.who_stands_outside_is_outside.Goals as goal

pub returns : goal.returns
returns c = acts-outside
