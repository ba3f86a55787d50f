use Rattle.std.proofs.Common.{◌≡◌, ◌+◌, ◌*◌, ◌∙◌, Ok, arith, length, slice_index}
use Rattle.hex.specs.Hex.{pair_value}
use Rattle.hex.proofs.HexLemmas.{decode_of-even}
use Rattle.hex.proofs.Pairs.{decode_done, decode_step}
use Rattle.lwc_text.proofs.HexPairs.{pair_of}
use Rattle.lwc_text.proofs.requests.decode.Goals as goal

pub byte_of-requires-clause-high : goal.byte_of-requires-clause-high
byte_of-requires-clause-high c =
    rw (pair_of c.args.line.now c.as_chunks.result.0.now (length c.args.bytes.now) c.bytes.i c.as_chunks.ensures.front c.requires.room (omega arith)) (c.requires.digits (2 * c.bytes.i) 0 (omega arith))

pub byte_of-requires-clause-low : goal.byte_of-requires-clause-low
byte_of-requires-clause-low c =
    rw (pair_of c.args.line.now c.as_chunks.result.0.now (length c.args.bytes.now) c.bytes.i c.as_chunks.ensures.front c.requires.room (omega arith)) (c.requires.digits (2 * c.bytes.i + 1) 0 (omega arith))

pub bytes-preserved : goal.bytes-preserved
bytes-preserved c =
    let at = 2 * c.bytes.i in
    let pair = pair_of c.args.line.now c.as_chunks.result.0.now (length c.args.bytes.now) c.bytes.i c.as_chunks.ensures.front c.requires.room (omega arith) in
    let told : pair_value (slice_index c.args.line.now at) (slice_index c.args.line.now (at + 1)) at ≡ Ok c.byte_of.result = rw pair at (c.byte_of.ensures at) in
    decode_step _ _ c.bytes.i _ (omega arith) (omega arith) told c.bytes.invariant

pub returns : goal.returns
returns c = decode_of-even _ (omega arith) ∙ decode_done _ c.bytes.bytes c.bytes.i (omega arith) (omega arith) c.bytes.invariant
