use Rattle.std.proofs.Common.{◌-◌, ◌+◌, vec_len}
use Rattle.lwcrun_inputs.proofs.Fetches.{ReadSoFar}
use Rattle.lwcrun_inputs.proofs.reading.read_whole.Given as goal

-- the file may begin with the bytes that were read, at most one more than the limit
abbrev pub invariant-loop-bytes : goal.invariant-loop-bytes
invariant-loop-bytes g l =
    let seen = g.F.Files.seen in
    ReadSoFar (seen l.fn.files) (seen l.files) l.name l.limit l.bytes.items (vec_len l.buffer)

-- what may still be read
abbrev pub decreases-loop-bytes : goal.decreases-loop-bytes
decreases-loop-bytes g l = l.limit + 1 - vec_len l.bytes
