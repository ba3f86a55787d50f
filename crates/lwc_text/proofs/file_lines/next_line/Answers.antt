use Rattle.std.proofs.Common.{arith, ◌+◌}
use Rattle.lwc_text.proofs.FileLines.{line_ended, line_open, whole_rest}
use Rattle.lwc_text.proofs.file_lines.next_line.Goals as goal

pub returns-then-end-bytes-clause-lines : goal.returns-then-end-bytes-clause-lines
returns-then-end-bytes-clause-lines c =
    rw (c.without_return.ensures.stripped, whole_rest (c.line_end-end.result + 1) c.args.bytes.now, c.line_end-end.ensures.place) (line_ended c.args.bytes.now (omega (arith, c.line_end-end.ensures.place, c.if-end-bytes.true)))

pub returns-else-end-bytes-clause-lines : goal.returns-else-end-bytes-clause-lines
returns-else-end-bytes-clause-lines c = line_open c.args.bytes.now (omega (arith, c.line_end-end.ensures.place)) c.requires
