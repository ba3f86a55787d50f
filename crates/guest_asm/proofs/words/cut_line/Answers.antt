use Rattle.std.proofs.Common.{arith}
use Rattle.guest_asm.proofs.Lexis.{line_ended, line_open}
use Rattle.guest_asm.proofs.Plain.{ended_plain, open_plain}
use Rattle.guest_asm.proofs.words.cut_line.Goals as goal

pub returns-then-place-bytes-clause-first : goal.returns-then-place-bytes-clause-first
returns-then-place-bytes-clause-first c =
    rw (c.split_at.ensures.front, c.split_at.ensures.back, c.place_of-place.ensures.place) (line_ended c.args.bytes.now (omega (arith, c.place_of-place.ensures.place)))

pub returns-else-place-bytes-clause-first : goal.returns-else-place-bytes-clause-first
returns-else-place-bytes-clause-first c = line_open c.args.bytes.now (omega (arith, c.place_of-place.ensures.place)) c.requires

pub returns-then-place-bytes-clause-plain : goal.returns-then-place-bytes-clause-plain
returns-then-place-bytes-clause-plain c clean =
    rw (c.split_at.ensures.front, c.place_of-place.ensures.place) (ended_plain c.args.bytes.now clean (omega (arith, c.place_of-place.ensures.place)))

pub returns-else-place-bytes-clause-plain : goal.returns-else-place-bytes-clause-plain
returns-else-place-bytes-clause-plain c clean = open_plain c.args.bytes.now clean (omega (arith, c.place_of-place.ensures.place))
