use Rattle.std.proofs.Common.{◌≡◌, ◌-◌, take, drop, length, get_or, arith}
use Rattle.std.specs.List.{position_or_len}
use Rattle.std.proofs.lemmas.Bool.Decides.{nat_tests}
use Rattle.guest_asm.specs.Lexis.{is_separator}
use Rattle.guest_asm.proofs.Fronts.{led, short_is}
use Rattle.guest_asm.proofs.words.short_register.Goals as goal

pub returns-clause-word : goal.returns-clause-word
returns-clause-word c =
    let from = c.from_first_word-from.result.now in
    let after = take (length from - 2) (drop 2 from) in
    let ends : position_or_len is_separator after ≡ 0 = grind (arith, nat_tests, c.ends_word.ensures, c.if-not-ends_word.false) in
    short_is c.args.text.now from after (get_or from 1 0) c.from_first_word-from.ensures (led from (omega (arith, c.if-from-lt2.false)) (omega (arith, c.if-from-ne114.false))) (omega (arith, c.if-digit-lt48.false)) (omega (arith, c.if-digit-gt57.false)) ends
