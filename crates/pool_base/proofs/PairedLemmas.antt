-- Two lists side by side: their places, their changes, and their sums.
use Rattle.std.proofs.Common.{◌≡◌, ℕ, zero, suc, ◌<◌, List, [], ◌∷◌, length, get_or, set, replicate, refl, ap, arith}
use Rattle.std.specs.List.{sum_by}
use Rattle.std.proofs.lemmas.List.Sums.{sum_by-cons}
use Rattle.pool_base.specs.Paired.{paired}

pub length-paired : {A B C : Type 0} (f : A → B → C) (xs : List A) (ys : List B) → length xs ≡ length ys → length (paired f xs ys) ≡ length xs
length-paired f [] ys e = refl
length-paired f (x ∷ xs) [] e = absurd (omega (arith, e))
length-paired f (x ∷ xs) (y ∷ ys) e = omega (arith, length-paired f xs ys (omega (arith, e)))

pub get_or-paired : {A B C : Type 0} (f : A → B → C) (xs : List A) (ys : List B) (n : ℕ) (a : A) (b : B) (c : C) → n < length xs → n < length ys → get_or (paired f xs ys) n c ≡ f (get_or xs n a) (get_or ys n b)
get_or-paired f [] ys n a b c lt lt' = absurd (omega (arith, lt))
get_or-paired f (x ∷ xs) [] n a b c lt lt' = absurd (omega (arith, lt'))
get_or-paired f (x ∷ xs) (y ∷ ys) zero a b c lt lt' = refl
get_or-paired f (x ∷ xs) (y ∷ ys) (suc n) a b c lt lt' = get_or-paired f xs ys n a b c (omega (arith, lt)) (omega (arith, lt'))

pub paired-set : {A B C : Type 0} (f : A → B → C) (xs : List A) (ys : List B) (n : ℕ) (a : A) (b : B) → paired f (set xs n a) (set ys n b) ≡ set (paired f xs ys) n (f a b)
paired-set f [] ys n a b = refl
paired-set f (x ∷ xs) [] zero a b = refl
paired-set f (x ∷ xs) [] (suc n) a b = refl
paired-set f (x ∷ xs) (y ∷ ys) zero a b = refl
paired-set f (x ∷ xs) (y ∷ ys) (suc n) a b = ap (λ t. f x y ∷ t) (paired-set f xs ys n a b)

pub paired-replicate : {A B C : Type 0} (f : A → B → C) (n : ℕ) (a : A) (b : B) → paired f (replicate n a) (replicate n b) ≡ replicate n (f a b)
paired-replicate f zero a b = refl
paired-replicate f (suc n) a b = ap (λ t. f a b ∷ t) (paired-replicate f n a b)

-- a sum that looks at the first list alone
pub sum_by-paired : {A B C : Type 0} (f : A → B → C) (g : C → ℕ) (h : A → ℕ) (xs : List A) (ys : List B) → ((a : A) (b : B) → g (f a b) ≡ h a) → length xs ≡ length ys → sum_by g (paired f xs ys) ≡ sum_by h xs
sum_by-paired f g h [] ys same e = refl
sum_by-paired f g h (x ∷ xs) [] same e = absurd (omega (arith, e))
sum_by-paired f g h (x ∷ xs) (y ∷ ys) same e =
    let rest = sum_by-paired f g h xs ys same (omega (arith, e)) in
    omega (arith, rest, same x y, sum_by-cons g (f x y) (paired f xs ys), sum_by-cons h x xs)
