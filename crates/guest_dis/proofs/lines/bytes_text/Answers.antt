use Rattle.std.proofs.Common.{arith}
use Rattle.guest_dis.proofs.Texts.{all_bytes}
use Rattle.guest_dis.proofs.lines.bytes_text.Goals as goal

pub returns-in_ok-from_str-clause-bytes : goal.returns-in_ok-from_str-clause-bytes
returns-in_ok-from_str-clause-bytes c = all_bytes c.args.bytes.now (λ i. omega (arith, c.type_inv.bytes i))

pub returns-in_ok-encode-clause-bytes : goal.returns-in_ok-encode-clause-bytes
returns-in_ok-encode-clause-bytes c = all_bytes c.args.bytes.now (λ i. omega (arith, c.type_inv.bytes i))
