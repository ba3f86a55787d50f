-- Decimal numbers.
use Rattle.std.specs.Prelude.{ℕ, ◌+◌, ◌-◌, ◌*◌, Bool, ◌&&◌, if◌then◌else◌, List, length, Option, None, Some, fold}
use Rattle.std.specs.Prelude.{nat_le}
use Rattle.std.specs.List.{list_all}

-- whether a byte is a decimal digit
abbrev pub is_digit : ℕ → Bool
is_digit byte = nat_le 48 byte && nat_le byte 57

-- whether a word is a number: one to nine decimal digits, and nothing else
abbrev pub is_number : List ℕ → Bool
is_number word = nat_le 1 (length word) && nat_le (length word) 9 && list_all is_digit word

-- the number that decimal digits spell, the highest first
unfoldable pub decimal_value : List ℕ → ℕ
decimal_value word = fold (λ value digit. 10 * value + (digit - 48)) 0 word

-- the number that a word spells, if it is one
unfoldable pub number_of : List ℕ → Option ℕ
number_of word = if is_number word then Some (decimal_value word) else None
