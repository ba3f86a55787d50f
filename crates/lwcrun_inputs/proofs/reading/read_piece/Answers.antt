use Rattle.std.proofs.Common.{◌≡◌, length, arith}
use Rattle.lwcrun_inputs.proofs.Fetches.{more_begins}
use Rattle.lwcrun_inputs.proofs.reading.read_piece.Goals as goal

pub returns-in-Ok-extend_from_slice-clause-front : goal.returns-in-Ok-extend_from_slice-clause-front
returns-in-Ok-extend_from_slice-clause-front g c =
    let at : c.len.result ≡ length c.args.bytes.now.items = omega arith in
    rw c.in-Ok-extend_from_slice.ensures.items (more_begins _ _ _ _ _ at c.in-Ok.ensures.count c.requires.front c.in-Ok.ensures.piece)

pub returns-in-Ok-extend_from_slice-clause-are_bytes : goal.returns-in-Ok-extend_from_slice-clause-are_bytes
returns-in-Ok-extend_from_slice-clause-are_bytes g c = c.type_inv.bytes
