use Rattle.std.proofs.Common.{◌<◌, arith}
use Rattle.lwc_text.proofs.Decimals.{small}
use Rattle.lwc_text.proofs.numbers.decimal_value.Goals as goal

pub overflow_mul-value : goal.overflow_mul-value
overflow_mul-value c =
    let few : c.loop-digit.digit-index < 9 = omega arith in omega (arith, small _ _ c.loop-digit.invariant.bound few)

pub overflow_add-value : goal.overflow_add-value
overflow_add-value c =
    let few : c.loop-digit.digit-index < 9 = omega arith in omega (arith, small _ _ c.loop-digit.invariant.bound few)
