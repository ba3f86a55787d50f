use Rattle.lwc_vault.proofs.Schedules.{keeps_secret}
use Rattle.lwc_vault.proofs.laws.schedules_keep_the_secret.Goals as goal

pub returns : goal.returns
returns c = keeps_secret
