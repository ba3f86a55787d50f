use Rattle.std.proofs.Common.{◌∙◌, refl}
use Rattle.guest_asm.proofs.Texts.{line_is, plain_is, text_is}
use Rattle.guest_asm.proofs.words.next_line.Goals as goal

pub returns-then-bytes-end-eq10-clause-first : goal.returns-then-bytes-end-eq10-clause-first
returns-then-bytes-end-eq10-clause-first c =
    rw (c.split_at.ensures.front, c.split_at.ensures.back) (line_is c.args.bytes.now c.text_end-end.result c.text_end-end.ensures.place c.if-end-bytes.true c.if-bytes-end-eq10.true)

pub returns-then-bytes-end-eq10-clause-text : goal.returns-then-bytes-end-eq10-clause-text
returns-then-bytes-end-eq10-clause-text c =
    rw (c.split_at.ensures.front) (c.without_return-text.ensures ∙ text_is c.args.bytes.now c.text_end-end.result c.text_end-end.ensures.place c.if-end-bytes.true c.if-bytes-end-eq10.true)

pub returns-then-bytes-end-eq10-clause-plain : goal.returns-then-bytes-end-eq10-clause-plain
returns-then-bytes-end-eq10-clause-plain c clean =
    rw (c.split_at.ensures.front) (plain_is c.args.bytes.now c.text_end-end.result c.text_end-end.ensures.place c.if-end-bytes.true c.if-bytes-end-eq10.true clean)
