use Rattle.lwc_text.proofs.Decimals.{IsValueOf}
use Rattle.lwc_text.proofs.numbers.decimal_value.Given as goal

-- the value is that of the digits so far
abbrev pub invariant-loop-digit : goal.invariant-loop-digit
invariant-loop-digit l = IsValueOf l.value l.digit-index l.digits
