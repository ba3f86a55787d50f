use Rattle.std.proofs.Common.{ap, arith, length, length-append}
use Rattle.hex.proofs.HexLemmas.{length-encode_with}
use Rattle.hex.specs.Hex.{encode_lower, lower_digits}
use Rattle.lwc_text.proofs.lines.append_bytes.Goals as goal

pub returns-clause-short : goal.returns-clause-short
returns-clause-short c =
    omega (arith, ap length c.append_digits.ensures.digits, length-append c.args.out.now.items (encode_lower c.args.bytes.now), length-encode_with lower_digits c.args.bytes.now, c.requires.few)
