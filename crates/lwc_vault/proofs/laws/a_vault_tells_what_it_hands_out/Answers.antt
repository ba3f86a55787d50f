use Rattle.kernel_core.specs.Start.{start}
use Rattle.lwc_vault.proofs.Handing.{nobody-tells, tells-handed}
use Rattle.lwc_vault.proofs.laws.a_vault_tells_what_it_hands_out.Goals as goal
use Rattle.lwc_vault.specs.Secrets.{beside}

pub returns-clause-handed : goal.returns-clause-handed
returns-clause-handed c = tells-handed

pub returns-clause-nobody : goal.returns-clause-nobody
returns-clause-nobody c inputs v steps stand = nobody-tells (start (beside inputs v)) steps stand
