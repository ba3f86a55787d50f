-- Words that are numbers or registers.
use Rattle.std.specs.Prelude.{ℕ, ◌-◌, ◌^◌, Bool, not, ◌||◌, ◌&&◌, nat_lt, nat_le, ◌==◌, if◌then◌else◌, List, length}
use Rattle.std.specs.Prelude.{drop, slice_index, Option, Some, None, option_and_then}
use Rattle.std.specs.List.{list_all}
use Rattle.std.specs.Char.{is_digit}
use Rattle.std.specs.Str.Parse.{digits_value}
use Rattle.guest_asm.specs.Lexis.{has_bytes}

-- whether each byte is a digit in this radix, in either case
abbrev pub all_digits : ℕ → List ℕ → Bool
all_digits radix word = list_all (λ b. is_digit b radix) word

-- the number below 2 ^ 32 that digits write
unfoldable pub digits_of : ℕ → List ℕ → Option ℕ
digits_of radix word =
    if all_digits radix word && nat_lt (digits_value radix word) (2 ^ 32)
    then Some (digits_value radix word) else None

-- whether a word is not empty and has no zero in front of other bytes
abbrev pub is_led : List ℕ → Bool
is_led word = has_bytes word && (length word == 1 || not (slice_index word 0 == 0x30))

-- the number of a decimal below 2 ^ 32 without leading zeros
abbrev pub decimal_of : List ℕ → Option ℕ
decimal_of word = if is_led word then digits_of 10 word else None

-- the number of one to eight hexadecimal digits
abbrev pub hexadecimal_of : List ℕ → Option ℕ
hexadecimal_of word = if has_bytes word && nat_le (length word) 8 then digits_of 16 word else None

-- what a number after a `-` stands for: 2 ^ 32 less it, for 1 to 2 ^ 31
abbrev pub negative_of : ℕ → Option ℕ
negative_of n = if nat_le 1 n && nat_le n (2 ^ 31) then Some (2 ^ 32 - n) else None

-- whether a word begins with `0x`
abbrev pub is_prefixed : List ℕ → Bool
is_prefixed word = nat_le 2 (length word) && slice_index word 0 == 0x30 && slice_index word 1 == 0x78

-- whether a word begins with `-`
abbrev pub is_signed : List ℕ → Bool
is_signed word = slice_index word 0 == 0x2d

-- the number that a word is: a decimal, `0x` and hexadecimal digits, or `-` and a decimal
unfoldable pub number_of : List ℕ → Option ℕ
number_of word =
    if is_signed word then option_and_then negative_of (decimal_of (drop 1 word))
    else if is_prefixed word then hexadecimal_of (drop 2 word)
    else decimal_of word

-- a number below 16
abbrev pub register_with : ℕ → Option ℕ
register_with n = if nat_lt n 16 then Some n else None

-- r0 to r15
unfoldable pub register_of : List ℕ → Option ℕ
register_of word =
    if slice_index word 0 == 0x72 then option_and_then register_with (decimal_of (drop 1 word))
    else None
