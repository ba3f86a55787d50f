-- Bytes without trailing zeros.
use Rattle.std.proofs.Common.{◌≡◌, ℕ, suc, ◌+◌, ◌-◌, ◌<◌, ◌≤◌, Bool, true, false, List, [], ◌∷◌, ◌++◌, length, take, get_or, refl, sym, ap, ◌∙◌, arith, All, replicate}
use Rattle.std.specs.Prelude.{◌==◌, if◌then◌else◌}
use Rattle.std.proofs.lemmas.Bool.{eqb-true}
use Rattle.std.proofs.lemmas.Bool.Decides.{nat_tests}
use Rattle.std.proofs.lemmas.List.{take_more}
use Rattle.std.proofs.lemmas.List.Elements.{All-nil, All-cons, All-head, All-tail}
use Rattle.guest_dis.specs.Listing.{trimmed, before_trimmed}

trim_zero : (xs : List ℕ) → trimmed (xs ++ 0 ∷ []) ≡ trimmed xs
trim_zero [] = refl
trim_zero (x ∷ xs) = ap (before_trimmed x) (trim_zero xs)

before_some : (y : ℕ) (xs : List ℕ) (x : ℕ) → before_trimmed y (xs ++ x ∷ []) ≡ y ∷ xs ++ x ∷ []
before_some y [] x = refl
before_some y (z ∷ zs) x = refl

trim_other : (xs : List ℕ) (x : ℕ) → (x == 0) ≡ false → trimmed (xs ++ x ∷ []) ≡ xs ++ x ∷ []
trim_other [] x e = rw e refl
trim_other (y ∷ xs) x e = ap (before_trimmed y) (trim_other xs x e) ∙ before_some y xs x

-- the last byte is a zero
pub one_less : (xs : List ℕ) (k : ℕ) → k < length xs → get_or xs k 0 ≡ 0 → trimmed (take k xs) ≡ trimmed (take (k + 1) xs)
one_less xs k lt zero_there = sym (ap trimmed (take_more xs k 0 lt ∙ ap (λ (x : ℕ). take k xs ++ x ∷ []) zero_there) ∙ trim_zero (take k xs))

apart : (x : ℕ) → (x ≡ 0 → ⊥) → (x == 0) ≡ false
apart x h = grind (arith, nat_tests)

-- the last byte is another
pub no_less : (xs : List ℕ) (k : ℕ) → k < length xs → (get_or xs k 0 ≡ 0 → ⊥) → trimmed (take (k + 1) xs) ≡ take (k + 1) xs
no_less xs k lt other = ap trimmed (take_more xs k 0 lt) ∙ trim_other (take k xs) (get_or xs k 0) (apart (get_or xs k 0) other) ∙ sym (take_more xs k 0 lt)

padded_by : (b : ℕ) (bs t : List ℕ) → t ++ replicate (length bs - length t) 0 ≡ bs → before_trimmed b t ++ replicate (suc (length bs) - length (before_trimmed b t)) 0 ≡ b ∷ bs
padded_by b bs [] e = by (b == 0) refl
  where
    by : (z : Bool) → (b == 0) ≡ z → before_trimmed b [] ++ replicate (suc (length bs) - length (before_trimmed b [])) 0 ≡ b ∷ bs
    by true is =
        let n : length bs - 0 ≡ length bs = omega arith in
        let m : suc (length bs) - 0 ≡ suc (length bs) = omega arith in
        let zeros : replicate (length bs) 0 ≡ bs = ap (λ k. replicate k 0) (sym n) ∙ e in
        rw (is, m) (ap (λ (x : List ℕ). 0 ∷ x) zeros ∙ ap (λ (x : ℕ). x ∷ bs) (sym (eqb-true b 0 is)))
    by false is =
        let m : suc (length bs) - 1 ≡ length bs - 0 = omega arith in
        rw (is, m) (ap (λ (x : List ℕ). b ∷ x) e)
padded_by b bs (c ∷ cs) e =
    let m : suc (length bs) - suc (suc (length cs)) ≡ length bs - suc (length cs) = omega arith in
    rw m (ap (λ (x : List ℕ). b ∷ x) e)

-- zeros make the bytes whole again
pub padded_again : (bs : List ℕ) → trimmed bs ++ replicate (length bs - length (trimmed bs)) 0 ≡ bs
padded_again [] = refl
padded_again (b ∷ bs) = padded_by b bs (trimmed bs) (padded_again bs)

front_all : (P : ℕ → Type 0) (xs ys : List ℕ) → All P (xs ++ ys) → All P xs
front_all P [] ys all = All-nil P
front_all P (x ∷ xs) ys all = All-cons P x xs (All-head P x (xs ++ ys) all) (front_all P xs ys (All-tail P x (xs ++ ys) all))

pub trimmed_all : (P : ℕ → Type 0) (bs : List ℕ) → All P bs → All P (trimmed bs)
trimmed_all P bs all = front_all P (trimmed bs) (replicate (length bs - length (trimmed bs)) 0) (rw (padded_again bs) all)

pub trimmed_short : (bs : List ℕ) → length (trimmed bs) ≤ length bs
trimmed_short [] = omega arith
trimmed_short (b ∷ bs) = by (trimmed bs) (trimmed_short bs)
  where
    zero_or : (z : Bool) → length (if z then [] else b ∷ []) ≤ suc (length bs)
    zero_or true = omega arith
    zero_or false = omega arith

    by : (t : List ℕ) → length t ≤ length bs → length (before_trimmed b t) ≤ suc (length bs)
    by [] le = zero_or (b == 0)
    by (c ∷ cs) le = omega (arith, le)
