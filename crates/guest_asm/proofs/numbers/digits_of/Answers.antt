use Rattle.std.proofs.Common.{arith, ◌∙◌, sym, ap, ◌≡◌, drop, []}
use Rattle.std.proofs.lemmas.Grind.{common_steps}
use Rattle.std.proofs.lemmas.Bool.Decides.{nat_tests}
use Rattle.std.specs.Str.Parse.{digits_value_after}
use Rattle.guest_asm.specs.Numbers.{all_digits}
use Rattle.guest_asm.proofs.Digits.{no_digit, too_great, is_number}
use Rattle.guest_asm.proofs.numbers.digits_of.Goals as goal

pub returns-in_err-digit : goal.returns-in_err-digit
returns-in_err-digit c =
    grind (arith, common_steps, no_digit c.args.radix c.args.word.now c.loop-byte.byte-index c.loop-byte-test.true (grind (arith, common_steps, nat_tests)) c.loop-byte.invariant.digits)

pub returns-then-value-gt4294967295 : goal.returns-then-value-gt4294967295
returns-then-value-gt4294967295 c =
    sym (too_great c.args.radix c.args.word.now c.loop-byte.byte-index c.loop-byte-test.true c.loop-byte.value (omega (arith, c.requires.some)) (grind (arith, common_steps)) c.loop-byte.invariant.value)

pub returns : goal.returns
returns c =
    let past : drop c.loop-byte.byte-index c.args.word.now ≡ [] = grind (arith, common_steps) in
    sym (is_number c.args.radix c.args.word.now c.loop-byte.value c.loop-byte.invariant.fits (sym c.loop-byte.invariant.digits ∙ ap (all_digits c.args.radix) past) (sym c.loop-byte.invariant.value ∙ ap (digits_value_after c.args.radix c.loop-byte.value) past))
