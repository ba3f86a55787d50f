-- The lowest empty slot, found by the bits of those that may be empty.
use Rattle.std.proofs.Common.{◌≡◌, ◌≢◌, inl, inr, ℕ, zero, suc, ◌+◌, ◌<◌, ◌≤◌, ◌^◌, arith, sym, ap, ◌∙◌, refl, Bool, true, false, cond, Some, None, w64}
use Rattle.std.specs.Int.{bit_at, bit_not}
use Rattle.std.specs.Int.Bits.{bit_or}
use Rattle.std.specs.List.{find, range_with_len}
use Rattle.std.proofs.lemmas.Bool.{cases_eq, eq-eqb, false≢true, ne_eqb}
use Rattle.std.proofs.lemmas.Nat.Bits.{bit_at-lt, bit_at_not, bit_at_or}
use Rattle.lwc_base.specs.Capabilities.{has_bit}

-- the first number that passes a test is found
pub find-here : (p : ℕ → Bool) (a count n : ℕ) → a ≤ n → n < a + count → ((m : ℕ) → m < n → p m ≡ false) → p n ≡ true → find p (range_with_len a count) ≡ Some n
find-here p a zero n from below none is = absurd (omega (arith, from, below))
find-here p a (suc count) n from below none is =
    elim (cases_eq a n) [
      | inl same ↦ ap (λ b. cond b (Some a) (find p (range_with_len (a + 1) count))) (ap p same ∙ is) ∙ ap Some same
      | inr other ↦
          ap (λ b. cond b (Some a) (find p (range_with_len (a + 1) count))) (none a (omega (arith, from, other)))
          ∙ find-here p (a + 1) count n (omega (arith, from, other)) (omega (arith, below)) none is
    ]

-- nothing is found where no number passes
pub find-missed : (p : ℕ → Bool) (a count : ℕ) → ((m : ℕ) → m < a + count → p m ≡ false) → find p (range_with_len a count) ≡ None
find-missed p a zero none = refl
find-missed p a (suc count) none =
    ap (λ b. cond b (Some a) (find p (range_with_len (a + 1) count))) (none a (omega arith))
    ∙ find-missed p (a + 1) count (λ m below. none m (omega (arith, below)))

-- a bit that neither what a word lacks nor another word has
pub closed-bit : (f c n : ℕ) → f < 2 ^ 64 → n < 64 → has_bit (bit_or (bit_not w64 f) c) n ≡ false → (has_bit f n ≡ true) × (has_bit c n ≡ false)
closed-bit f c n fits low off =
    let either = bit_at_or (bit_not w64 f) c n in
    let lacks = bit_at_not w64 f n fits low in
    let not_one : bit_at (bit_or (bit_not w64 f) c) n ≢ 1 = λ is. false≢true (sym off ∙ eq-eqb _ 1 is) in
    let here = bit_at-lt f n in
    let there = bit_at-lt c n in
    let filled : bit_at f n ≡ 1 = omega (arith, either, lacks, not_one, here, there) in
    let own : bit_at c n ≢ 1 = omega (arith, either, lacks, not_one, here, there) in
    (eq-eqb (bit_at f n) 1 filled, ne_eqb (bit_at c n) 1 own)
