use Rattle.lwc_vault.proofs.Staying.{stays-shut}
use Rattle.lwc_vault.proofs.laws.no_descriptor_opens_the_vault.Goals as goal

pub returns : goal.returns
returns c = stays-shut
