use Rattle.std.proofs.Common.{arith}
use Rattle.fd_table.proofs.BitLemmas.{ones-count}
use Rattle.fd_table.proofs.slots.Slots.count_filled.Goals as goal

pub returns : goal.returns
returns c = ones-count c.filled.result _ (omega arith) c.filled.ensures
