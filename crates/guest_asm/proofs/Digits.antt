-- Digits one after another, as a loop reads them.
use Rattle.std.proofs.Common.{◌≡◌, ℕ, suc, ◌+◌, ◌*◌, ◌^◌, ◌<◌, ◌≤◌, true, false, ◌&&◌, List, [], ◌∷◌, length, drop, get_or, Some, None, refl, sym, ◌∙◌, arith, drop-cons}
use Rattle.std.specs.Char.{is_digit, digit_value}
use Rattle.std.specs.Str.Parse.{digits_value, digits_value_after}
use Rattle.std.proofs.lemmas.Bool.Decides.{nat_tests}
use Rattle.std.proofs.Math.Nat.{le-mul_of_pos_right}
use Rattle.guest_asm.specs.Numbers.{all_digits, digits_of}

grows : (radix n : ℕ) (ds : List ℕ) → 1 ≤ radix → n ≤ digits_value_after radix n ds
grows radix n [] some = omega arith
grows radix n (d ∷ ds) some = omega (arith, grows radix (n * radix + digit_value d) ds some, at_least n radix some)
  where
    at_least : (n radix : ℕ) → 1 ≤ radix → n ≤ n * radix
    at_least n radix some = le-mul_of_pos_right n (omega arith)

-- how far a loop over digits has come
module _ (radix : ℕ) (word : List ℕ) (i : ℕ) (lt : i < length word) where
  front_digit : all_digits radix (drop i word) ≡ (is_digit (get_or word i 0) radix && all_digits radix (drop (suc i) word))
  front_digit = rw (drop-cons word i 0) refl

  front_value : (n : ℕ) → digits_value_after radix n (drop i word) ≡ digits_value_after radix (n * radix + digit_value (get_or word i 0)) (drop (suc i) word)
  front_value n = rw (drop-cons word i 0) refl

  pub no_digit : is_digit (get_or word i 0) radix ≡ false → all_digits radix (drop i word) ≡ all_digits radix word → digits_of radix word ≡ None
  unfolding digits_of
  no_digit e so_far = let no : all_digits radix word ≡ false = sym so_far ∙ front_digit ∙ rw e refl in rw no refl

  pub too_great : (n : ℕ) → 1 ≤ radix → 2 ^ 32 ≤ n * radix + digit_value (get_or word i 0) → digits_value_after radix n (drop i word) ≡ digits_value radix word → digits_of radix word ≡ None
  unfolding digits_of
  too_great n some big so_far =
      let grown : 2 ^ 32 ≤ digits_value radix word = omega (arith, so_far, front_value n, grows radix (n * radix + digit_value (get_or word i 0)) (drop (suc i) word) some) in
      grind (arith, nat_tests)

pub is_number : (radix : ℕ) (word : List ℕ) (n : ℕ) → n < 2 ^ 32 → all_digits radix word ≡ true → digits_value radix word ≡ n → digits_of radix word ≡ Some n
unfolding digits_of
is_number radix word n small all is = grind (arith, nat_tests)
