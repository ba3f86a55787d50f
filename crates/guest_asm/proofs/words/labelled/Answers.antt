use Rattle.std.proofs.Common.{arith, sym, ap}
use Rattle.std.proofs.lemmas.Grind.{common_steps}
use Rattle.guest_asm.proofs.Lexis.{labelled_is}
use Rattle.guest_asm.proofs.words.labelled.Goals as goal

pub returns-then-is_name-clause-label : goal.returns-then-is_name-clause-label
returns-then-is_name-clause-label c =
    sym (ap (λ x. x.0) (labelled_is c.args.text.now c.from_first_word-text.result.now c.place_of-colon.result c.from_first_word-text.ensures c.place_of-colon.ensures.place c.if-colon-text.true (sym c.if-is_name.ensures)))

pub returns-then-is_name-clause-rest : goal.returns-then-is_name-clause-rest
returns-then-is_name-clause-rest c =
    let h = labelled_is c.args.text.now c.from_first_word-text.result.now c.place_of-colon.result c.from_first_word-text.ensures c.place_of-colon.ensures.place c.if-colon-text.true (sym c.if-is_name.ensures) in
    let k = ap (λ x. x.1) h in grind (arith, common_steps)
