-- Numbers on a line.
use Rattle.std.specs.Prelude.{ℕ, ◌&&◌, if◌then◌else◌, List, Option, None, Some, nat_le}
use Rattle.std.specs.Option.{option_and_then}
use Rattle.lwc_text.specs.Numbers.{number_of}

-- a number where it is in a range
abbrev pub kept_within : ℕ → ℕ → ℕ → Option ℕ
kept_within least most n = if nat_le least n && nat_le n most then Some n else None

-- the number that a word spells, if it is one in a range
unfoldable pub number_within : ℕ → ℕ → List ℕ → Option ℕ
number_within least most word = option_and_then (kept_within least most) (number_of word)
