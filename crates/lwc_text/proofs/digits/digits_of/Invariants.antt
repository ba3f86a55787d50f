use Rattle.std.proofs.Common.{◌≡◌, ◌≤◌, length, take}
use Rattle.std.specs.Prelude.{map, vec_capacity}
use Rattle.lwc_text.specs.Glyphs.{glyph}
use Rattle.lwc_text.proofs.digits.digits_of.Given as goal

abbrev pub invariant-numbers : goal.invariant-numbers
invariant-numbers l = record {
  text : l.text.items ≡ map glyph (take l.number-index l.numbers);
  count : length l.text.items ≡ l.number-index;
  room : length l.numbers ≤ vec_capacity l.text;
}
