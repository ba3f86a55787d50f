use Rattle.std.proofs.Common.{ap, sym, ◌∙◌, arith}
use Rattle.guest_asm.proofs.Fronts.{no_label, no_word, one_word}
use Rattle.guest_asm.proofs.words.first_parts.Goals as goal

pub returns-then-end-eq0-clause-label : goal.returns-then-end-eq0-clause-label
returns-then-end-eq0-clause-label c =
    sym (ap (λ x. x.0) (no_label c.args.text.now c.from_first_word-from.result.now c.part_end-end.result c.from_first_word-from.ensures c.part_end-end.ensures.place (sym c.has_colon.ensures ∙ c.if-has_colon.false)))

pub returns-then-end-eq0-clause-none : goal.returns-then-end-eq0-clause-none
returns-then-end-eq0-clause-none c =
    no_word c.args.text.now c.from_first_word-from.result.now c.part_end-end.result c.from_first_word-from.ensures c.part_end-end.ensures.place (sym c.has_colon.ensures ∙ c.if-has_colon.false) c.if-end-eq0.true

pub returns-clause-label : goal.returns-clause-label
returns-clause-label c =
    sym (ap (λ x. x.0) (no_label c.args.text.now c.from_first_word-from.result.now c.part_end-end.result c.from_first_word-from.ensures c.part_end-end.ensures.place (sym c.has_colon.ensures ∙ c.if-has_colon.false)))

pub returns-clause-some : goal.returns-clause-some
returns-clause-some c =
    rw (c.split_at.ensures.front, c.split_at.ensures.back) (one_word c.args.text.now c.from_first_word-from.result.now c.part_end-end.result c.from_first_word-from.ensures c.part_end-end.ensures.place (sym c.has_colon.ensures ∙ c.if-has_colon.false) (grind (arith, c.if-end-eq0.false, c.part_end-end.ensures.within)))
