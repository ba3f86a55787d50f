use Rattle.std.proofs.Common.{ap, eqb}
use Rattle.std.proofs.lemmas.Nat.Bits.{shr_and_one}
use Rattle.fd_table.proofs.table.Table.is_common.Goals as goal

pub returns : goal.returns
returns c = ap (λ b. eqb b 1) (shr_and_one c.args.self.now.common c.args.slot)
