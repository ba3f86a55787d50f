-- Numbers, registers and bytes that are read as they are written.
use Rattle.std.proofs.Common.{◌≡◌, ℕ, suc, ◌+◌, ◌*◌, ◌%◌, ◌<◌, ◌≤◌, ◌^◌, zero, Bool, true, false, List, [], ◌∷◌, ◌++◌, length, get_or, Some, refl, ap, ◌∙◌, arith, All}
use Rattle.std.specs.Prelude.{nat_le, ◌/◌, ◌&&◌, ◌==◌, decimal, codes, slice_index}
use Rattle.std.specs.List.{list_all}
use Rattle.std.specs.Str.{bytes_eq}
use Rattle.std.specs.Char.{is_digit, digit_value}
use Rattle.std.specs.Str.Parse.{AllDigits, digits_value}
use Rattle.std.proofs.lemmas.Bool.{and_parts, lt-ltb}
use Rattle.std.proofs.lemmas.Bool.Decides.{nat_tests}
use Rattle.std.proofs.lemmas.Fmt.{decimal_is_IsNumeral, first_decimal, decimal_digit, decimal_nonempty, length-decimal-le}
use Rattle.std.proofs.lemmas.List.Sums.{list_all-from_AllPass}
use Rattle.std.proofs.lemmas.List.Elements.{All-head, All-tail}
use Rattle.hex.specs.Hex.{encode_lower, encode_with, lower_digits, is_hex_digit}
use Rattle.hex.proofs.HexLemmas.{decode_of-encode_lower, decode_of-ok, length-encode_with}
use Rattle.guest_asm.specs.Lexis.{has_bytes}
use Rattle.guest_asm.specs.Numbers.{all_digits, is_led, digits_of, decimal_of, number_of, register_of}
use Rattle.guest_asm.specs.Statements.{is_bytes_text, bytes_of}
use Rattle.guest_dis.specs.Listing.{bytes_text}
use Rattle.guest_dis.proofs.Bytes.{is_clean, is_clean_word, weaker}

digits_are : (w : List ℕ) → AllDigits 10 w → all_digits 10 w ≡ true
digits_are [] all = refl
digits_are (b ∷ bs) all = rw (lt-ltb (digit_value b) 10 all.0, digits_are bs all.1) refl

digit_clean : (b : ℕ) → is_digit b 10 ≡ true → is_clean b ≡ true
digit_clean b e = grind (arith, nat_tests)

has_some : (w : List ℕ) → 0 < length w → has_bytes w ≡ true
has_some w some = grind (arith, nat_tests)

is_number : (word : List ℕ) (n : ℕ) → n < 2 ^ 32 → all_digits 10 word ≡ true → digits_value 10 word ≡ n → digits_of 10 word ≡ Some n
unfolding digits_of
is_number word n small all is = grind (arith, nat_tests)

led : (w : List ℕ) → 0 < length w → (get_or w 0 0 ≡ 48 → length w ≡ 1) → is_led w ≡ true
led w some front = grind (arith, nat_tests)

leads : (n : ℕ) → n < 2 ^ 64 → get_or (decimal n) 0 0 ≡ 48 → length (decimal n) ≡ 1
leads zero small e = ap length (decimal_digit 0 (omega arith))
leads (suc n) small e = absurd (omega (arith, first_decimal (suc n) (omega arith) small))

decimal_digits : (n : ℕ) → n < 2 ^ 32 → all_digits 10 (decimal n) ≡ true
decimal_digits n small = digits_are (decimal n) (decimal_is_IsNumeral n (omega arith)).0.1

pub decimal_clean : (n : ℕ) → n < 2 ^ 32 → is_clean_word (decimal n) ≡ true
decimal_clean n small =
    rw (has_some (decimal n) (decimal_nonempty n (omega arith))) (weaker (λ b. is_digit b 10) is_clean digit_clean (decimal n) (decimal_digits n small))

decimal_of-decimal : (n : ℕ) → n < 2 ^ 32 → decimal_of (decimal n) ≡ Some n
decimal_of-decimal n small =
    let fits : n < 2 ^ 64 = omega arith in
    let l : is_led (decimal n) ≡ true = led (decimal n) (decimal_nonempty n fits) (leads n fits) in
    let value : digits_of 10 (decimal n) ≡ Some n = is_number (decimal n) n small (decimal_digits n small) (decimal_is_IsNumeral n fits).1 in
    rw (l, value) refl

no_sign : (b : ℕ) → is_digit b 10 ≡ true → (b == 0x2d) ≡ false
no_sign b e = grind (arith, nat_tests)

no_x : (b : ℕ) → is_digit b 10 ≡ true → (b == 0x78) ≡ false
no_x b e = grind (arith, nat_tests)

number_plain : (w : List ℕ) → all_digits 10 w ≡ true → number_of w ≡ decimal_of w
unfolding number_of
number_plain [] all = refl
number_plain (b ∷ []) all = let both = and_parts (is_digit b 10) true all in rw (no_sign b both.0) refl
number_plain (b ∷ c ∷ w) all =
    let both = and_parts (is_digit b 10) (all_digits 10 (c ∷ w)) all in
    let next = and_parts (is_digit c 10) (all_digits 10 w) both.1 in
    rw (no_sign b both.0, no_x c next.0) (grind (arith, nat_tests))

-- a number is read as it is written
pub number_of-decimal : (n : ℕ) → n < 2 ^ 32 → number_of (decimal n) ≡ Some n
number_of-decimal n small = number_plain (decimal n) (decimal_digits n small) ∙ decimal_of-decimal n small

-- a register is read as it is written
pub register_of-register : (r : ℕ) → r < 16 → register_of (codes "r" ++ decimal r) ≡ Some r
unfolding register_of
register_of-register r small = rw (decimal_of-decimal r (omega arith), lt-ltb r 16 small) refl

pub register_clean : (r : ℕ) → r < 16 → is_clean_word (codes "r" ++ decimal r) ≡ true
register_clean r small =
    let clean = and_parts (has_bytes (decimal r)) (list_all is_clean (decimal r)) (decimal_clean r (omega arith)) in
    rw (has_some (codes "r" ++ decimal r) (omega arith), clean.1) refl

pub decimal_short : (n : ℕ) → n < 2 ^ 32 → length (decimal n) ≤ 10
decimal_short n small = length-decimal-le 10 n (omega arith) (omega arith) (omega arith)

-- ---- bytes

are_bytes : (bs : List ℕ) → All (λ b. b < 256) bs → (i : ℕ) → slice_index bs i < 256
are_bytes [] all i = omega arith
are_bytes (b ∷ bs) all zero = All-head (λ b. b < 256) b bs all
are_bytes (b ∷ bs) all (suc i) = are_bytes bs (All-tail (λ b. b < 256) b bs all) i

hex_clean : (b : ℕ) → is_hex_digit b ≡ true → is_clean b ≡ true
hex_clean b e = grind (arith, nat_tests)

some_text : (b : ℕ) (bs : List ℕ) → bytes_text (b ∷ bs) ≡ encode_lower (b ∷ bs)
some_text b bs = let some : (length (b ∷ bs) == 0) ≡ false = grind (arith, nat_tests) in rw some refl

-- the length of bytes as text
pub text_length : (bs : List ℕ) → length (bytes_text bs) ≤ 1 + 2 * length bs
text_length [] = omega arith
text_length (b ∷ bs) = omega (arith, ap length (some_text b bs), length-encode_with lower_digits (b ∷ bs))

and_false : (t : Bool) → (t && false) ≡ false
and_false true = refl
and_false false = refl

not_dash : (b c : ℕ) (rest : List ℕ) → bytes_eq (b ∷ c ∷ rest) (codes "-") ≡ false
not_dash b c rest = and_false (b == 0x2d)

no_dash : (b : ℕ) (bs : List ℕ) → bytes_eq (encode_lower (b ∷ bs)) (codes "-") ≡ false
unfolding encode_with
no_dash b bs = not_dash (slice_index lower_digits (b / 16)) (slice_index lower_digits (b % 16)) (encode_with lower_digits bs)

-- bytes are read as they are written
pub bytes_again : (bs : List ℕ) → All (λ b. b < 256) bs → bytes_of (bytes_text bs) ≡ bs
unfolding bytes_of
bytes_again [] all = refl
bytes_again (b ∷ bs) all = rw (some_text b bs, no_dash b bs, decode_of-encode_lower (b ∷ bs) (are_bytes (b ∷ bs) all)) refl

hex_digits : (bs : List ℕ) → All (λ b. b < 256) bs → list_all is_hex_digit (encode_lower bs) ≡ true
hex_digits bs all = list_all-from_AllPass is_hex_digit (encode_lower bs) (decode_of-ok (encode_lower bs) bs (decode_of-encode_lower bs (are_bytes bs all))).1

is_even : (n : ℕ) → n % 2 ≡ 0 → (n % 2 == 0) ≡ true
is_even n e = grind (arith, nat_tests)

fits : (n most : ℕ) → n ≤ most → nat_le n most ≡ true
fits n most le = grind (arith, nat_tests)

pub is_text : (most : ℕ) (bs : List ℕ) → All (λ b. b < 256) bs → 2 * length bs ≤ most → is_bytes_text most (bytes_text bs) ≡ true
is_text most [] all short = refl
is_text most (b ∷ bs) all short =
    let count = length-encode_with lower_digits (b ∷ bs) in
    let even : (length (encode_lower (b ∷ bs)) % 2 == 0) ≡ true = is_even (length (encode_lower (b ∷ bs))) (decode_of-ok (encode_lower (b ∷ bs)) (b ∷ bs) (decode_of-encode_lower (b ∷ bs) (are_bytes (b ∷ bs) all))).0 in
    let few : nat_le (length (encode_lower (b ∷ bs))) most ≡ true = fits _ _ (omega (arith, count, short)) in
    rw (some_text b bs, no_dash b bs, even, hex_digits (b ∷ bs) all, few) refl

pub bytes_clean : (bs : List ℕ) → All (λ b. b < 256) bs → is_clean_word (bytes_text bs) ≡ true
bytes_clean [] all = refl
bytes_clean (b ∷ bs) all =
    let count = length-encode_with lower_digits (b ∷ bs) in
    ap is_clean_word (some_text b bs) ∙ rw (has_some (encode_lower (b ∷ bs)) (omega (arith, count))) (weaker is_hex_digit is_clean hex_clean (encode_lower (b ∷ bs)) (hex_digits (b ∷ bs) all))

-- .. in as many digits as there are
pub text_fits : (bs : List ℕ) → All (λ b. b < 256) bs → is_bytes_text (length (bytes_text bs)) (bytes_text bs) ≡ true
text_fits [] all = refl
text_fits (b ∷ bs) all = is_text (length (bytes_text (b ∷ bs))) (b ∷ bs) all (omega (arith, ap length (some_text b bs), length-encode_with lower_digits (b ∷ bs)))
