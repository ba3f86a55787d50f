-- The hexadecimal digits of numbers below 16 as a table has them.
use Rattle.std.proofs.Common.{◌≡◌, ℕ, zero, suc, ◌<◌, Bool, true, ◌&&◌, refl, inl, inr, arith, slice_index}
use Rattle.std.proofs.lemmas.Bool.{and_parts, cases_lt, eqb-true}
use Rattle.std.specs.Prelude.{◌==◌}
use Rattle.hex.specs.Hex.{lower_digits}
use Rattle.lwc_text.specs.Glyphs.{glyph}

-- the digit of a number is the one of the table

same_at : ℕ → Bool
same_at n = glyph n == slice_index lower_digits n

all_same : ℕ → Bool
all_same zero = true
all_same (suc n) = same_at n && all_same n

all_same-at : (n k : ℕ) → all_same n ≡ true → k < n → same_at k ≡ true
unfolding same_at all_same
all_same-at zero k h below = absurd (omega (arith, below))
all_same-at (suc n) k h below =
    let parts = and_parts (same_at n) (all_same n) h in
    elim (cases_lt k n) [
      | inl less ↦ all_same-at n k parts.1 less
      | inr top ↦
          let e : k ≡ n = omega (arith, below, top) in
          rw e parts.0
    ]

pub glyph_is : (n : ℕ) → n < 16 → glyph n ≡ slice_index lower_digits n
unfolding same_at all_same
glyph_is n small = eqb-true (glyph n) (slice_index lower_digits n) (all_same-at 16 n refl small)
