use Rattle.std.proofs.Common.{arith}
use Rattle.guest_isa.proofs.Inverse.{is_found, is_none}
use Rattle.guest_isa.proofs.spelling.decode.Goals as goal

pub returns-clause-found : goal.returns-clause-found
returns-clause-found c = is_found c.args.bytes.now c.read.result c.requires (λ k. omega (arith, c.type_inv.bytes k)) c.read.ensures

pub returns-clause-none : goal.returns-clause-none
returns-clause-none c = is_none c.args.bytes.now c.read.result c.read.ensures
