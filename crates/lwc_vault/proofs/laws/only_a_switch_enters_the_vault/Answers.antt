use Rattle.lwc_vault.proofs.Never.{outside_by_switches}
use Rattle.lwc_vault.proofs.laws.only_a_switch_enters_the_vault.Goals as goal

pub returns : goal.returns
returns c = outside_by_switches
