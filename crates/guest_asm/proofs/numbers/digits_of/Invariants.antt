use Rattle.std.proofs.Common.{◌≡◌, ◌<◌, ◌^◌, drop}
use Rattle.std.specs.Str.Parse.{digits_value, digits_value_after}
use Rattle.guest_asm.specs.Numbers.{all_digits}
use Rattle.guest_asm.proofs.numbers.digits_of.Given as goal

abbrev pub invariant-loop-byte : goal.invariant-loop-byte
invariant-loop-byte l = record {
  digits : all_digits l.radix (drop l.byte-index l.word) ≡ all_digits l.radix l.word;
  value : digits_value_after l.radix l.value (drop l.byte-index l.word) ≡ digits_value l.radix l.word;
  fits : l.value < 2 ^ 32;
}
