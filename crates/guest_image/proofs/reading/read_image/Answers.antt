use Rattle.std.proofs.Common.{arith}
use Rattle.guest_image.proofs.Answered.{is_found, is_only, is_refused, is_only_refused}
use Rattle.guest_image.proofs.reading.read_image.Goals as goal

pub returns-clause-found : goal.returns-clause-found
returns-clause-found c = is_found c.args.bytes.now (λ i. omega (arith, c.type_inv.bytes i)) c.read_file.result c.read_file.ensures

pub returns-clause-only : goal.returns-clause-only
returns-clause-only c = is_only c.args.bytes.now (λ i. omega (arith, c.type_inv.bytes i)) c.read_file.result c.read_file.ensures

pub returns-clause-refused : goal.returns-clause-refused
returns-clause-refused c = is_refused c.args.bytes.now (λ i. omega (arith, c.type_inv.bytes i)) c.read_file.result c.read_file.ensures

pub returns-clause-only_refused : goal.returns-clause-only_refused
returns-clause-only_refused c = is_only_refused c.args.bytes.now (λ i. omega (arith, c.type_inv.bytes i)) c.read_file.result c.read_file.ensures
