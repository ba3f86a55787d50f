use Rattle.std.proofs.Common.{arith}
use Rattle.lwc_text.proofs.VaultFacts.{found_in, only_memory}
use Rattle.lwc_text.proofs.vault.read_vault.Goals as goal

pub returns-clause-found : goal.returns-clause-found
returns-clause-found c = found_in c.args.instructions c.args.pages c.args.bytes.now (λ i. omega (arith, c.type_inv.bytes i)) _ c.read_limited.ensures

pub returns-clause-only : goal.returns-clause-only
returns-clause-only c v file = only_memory c.args.instructions c.args.pages c.args.bytes.now v (omega (arith, c.ranges.instructions)) c.requires file _ c.read_limited.ensures
