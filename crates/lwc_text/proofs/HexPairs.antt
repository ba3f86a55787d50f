-- The pairs that a list is cut into.
use Rattle.std.proofs.Common.{◌≡◌, ℕ, zero, suc, ◌+◌, ◌*◌, ◌/◌, ◌<◌, ◌≤◌, ◌∙◌, List, [], ◌∷◌, length, get_or, ap, arith, refl, slice_index}
use Rattle.std.specs.Simd.{first_chunks}

pair_at : (k i : ℕ) (xs : List ℕ) → i < k → 2 * k ≤ length xs → get_or (first_chunks 2 k xs) i [] ≡ slice_index xs (2 * i) ∷ slice_index xs (2 * i + 1) ∷ []
pair_at zero i xs below few = absurd (omega (arith, below))
pair_at (suc k) i [] below few = absurd (omega (arith, few))
pair_at (suc k) i (x ∷ []) below few = absurd (omega (arith, few))
pair_at (suc k) zero (x ∷ y ∷ xs) below few = refl
pair_at (suc k) (suc i) (x ∷ y ∷ xs) below few =
    let first : 2 * suc i ≡ suc (suc (2 * i)) = omega arith in
    let second : suc (suc (2 * i)) + 1 ≡ suc (suc (2 * i + 1)) = omega arith in
    rw (first, second) (pair_at k i xs (omega (arith, below)) (omega (arith, few)))

-- the pair of a place
pub pair_of : (xs : List ℕ) (pairs : List (List ℕ)) (count i : ℕ) → pairs ≡ first_chunks 2 (length xs / 2) xs → length xs ≡ 2 * count → i < count
    → get_or pairs i [] ≡ slice_index xs (2 * i) ∷ slice_index xs (2 * i + 1) ∷ []
pair_of xs pairs count i cut even below =
    ap (λ ps. get_or ps i []) cut ∙ pair_at (length xs / 2) i xs (omega (arith, even, below)) (omega (arith, even))
