-- Lists of views by their places.
use Rattle.std.proofs.Common.{◌≡◌, ◌≢◌, ◌⊎◌, ◌+◌, ◌<◌, ℕ, zero, suc, List, [], ◌∷◌, ◌++◌, length, set, refl, sym, ap, ◌∙◌, inl, inr, ⊎_elim, arith}
use Rattle.std.proofs.lemmas.List.Sums.{sum_by-cons}
use Rattle.std.specs.Prelude.{sum_by}
use mathlib.Core.Option.{some, some-injective, some-ne-none}
use lib.ListN.{get_elem?}

module _ {A : Type 0} where
  -- a place has one element
  pub one_at : (xs : List A) (i j : ℕ) (a b : A) → i ≡ j → get_elem? xs i ≡ some a → get_elem? xs j ≡ some b → a ≡ b
  one_at xs i j a b same p q = some-injective a b (sym p ∙ (ap (λ (k : ℕ). get_elem? xs k) same ∙ q))

  pub within : (xs : List A) (i : ℕ) (a : A) → get_elem? xs i ≡ some a → i < length xs
  within [] i a at = absurd (some-ne-none a (sym at))
  within (x ∷ xs) zero a at = omega arith
  within (x ∷ xs) (suc i) a at = let below = within xs i a at in omega arith

  -- an element of a longer list stands in the list, or is the last
  pub at_end : (xs : List A) (a b : A) (i : ℕ) → get_elem? (xs ++ a ∷ []) i ≡ some b → (get_elem? xs i ≡ some b) ⊎ ((i ≡ length xs) × (a ≡ b))
  at_end [] a b zero at = inr (refl, some-injective a b at)
  at_end [] a b (suc i) at = absurd (some-ne-none b (sym at))
  at_end (x ∷ xs) a b zero at = inl at
  at_end (x ∷ xs) a b (suc i) at = ⊎_elim (λ h. inl h) (λ t. inr (ap suc t.0, t.1)) (at_end xs a b i at)

  -- two places that differ may be written in either order
  pub set-comm : (xs : List A) (i j : ℕ) (a b : A) → i ≢ j → set (set xs i a) j b ≡ set (set xs j b) i a
  set-comm [] i j a b apart = refl
  set-comm (x ∷ xs) zero zero a b apart = absurd (apart refl)
  set-comm (x ∷ xs) zero (suc j) a b apart = refl
  set-comm (x ∷ xs) (suc i) zero a b apart = refl
  set-comm (x ∷ xs) (suc i) (suc j) a b apart = ap (λ (ys : List A). x ∷ ys) (set-comm xs i j a b (λ same. apart (ap suc same)))

  -- how a sum changes with one element
  pub sum_by-at : (f : A → ℕ) (xs : List A) (i : ℕ) (a b : A) → get_elem? xs i ≡ some a → sum_by f (set xs i b) + f a ≡ sum_by f xs + f b
  sum_by-at f [] i a b at = absurd (some-ne-none a (sym at))
  sum_by-at f (x ∷ xs) zero a b at = let same : f x ≡ f a = ap f (some-injective x a at) in omega (arith, sum_by-cons f x xs, sum_by-cons f b xs)
  sum_by-at f (x ∷ xs) (suc i) a b at = let rest = sum_by-at f xs i a b at in omega (arith, sum_by-cons f x xs, sum_by-cons f x (set xs i b))
