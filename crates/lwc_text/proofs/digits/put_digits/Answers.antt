use Rattle.std.proofs.Common.{◌≡◌, ◌/◌, ◌%◌, ◌∙◌, arith, slice_index}
use Rattle.hex.specs.Hex.{lower_digits}
use Rattle.hex.proofs.Pairs.{encode_done, encode_step}
use Rattle.lwc_text.proofs.HexDigits.{glyph_is}
use Rattle.lwc_text.proofs.digits.put_digits.Goals as goal

pub bytes-preserved : goal.bytes-preserved
bytes-preserved c =
    let byte = slice_index c.args.bytes.now c.bytes.i in
    let high : c.digit.result ≡ slice_index lower_digits (byte / 16) = c.digit.ensures ∙ glyph_is (byte / 16) (omega (arith, c.type_inv.bytes c.bytes.i)) in
    let low : c.digit-in-bytes.result ≡ slice_index lower_digits (byte % 16) = c.digit-in-bytes.ensures ∙ glyph_is (byte % 16) (omega arith) in
    encode_step lower_digits c.args.bytes.now c.bytes.digits c.bytes.i c.digit.result c.digit-in-bytes.result (omega arith) (omega arith) high low c.bytes.invariant

pub returns : goal.returns
returns c = encode_done lower_digits c.args.bytes.now c.bytes.digits c.bytes.i (omega arith) (omega arith) c.bytes.invariant
