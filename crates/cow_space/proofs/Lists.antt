-- Lists in which one element changes, and functions of their elements.
use Rattle.std.proofs.Common.{◌≡◌, ◌≢◌, ℕ, zero, suc, ◌+◌, ◌<◌, ◌≤◌, Bool, true, false, cond, List, [], ◌∷◌, ◌++◌, length, get_or, set, map, replicate, refl, sym, ◌∙◌, ap, arith}
use Rattle.std.specs.List.{sum_by}
use Rattle.std.proofs.lemmas.List.{map-set}
use Rattle.std.proofs.lemmas.List.Sums.{get_or-le-sum_by, sum_by-cons}
use Rattle.pool_base.proofs.Totals.{total, total-same}
use Rattle.lwc_types.proofs.Small.{set-map_same}

pub cond-of : {X Y : Type 0} (f : X → Y) (b : Bool) (x y : X) → f (cond b x y) ≡ cond b (f x) (f y)
cond-of f true x y = refl
cond-of f false x y = refl

-- one element is another now, and what all others stand for is what they stood for
pub map-set_changed : {X Y : Type 0} (f g : X → Y) (xs : List X) (i : ℕ) (x d : X) (y : Y) → f x ≡ y → ((j : ℕ) → j < length xs → j ≢ i → f (get_or xs j d) ≡ g (get_or xs j d)) → map f (set xs i x) ≡ set (map g xs) i y
map-set_changed f g xs i x d y new h = map-set f xs i x ∙ ap (λ z. set (map f xs) i z) new ∙ set-map_same f g xs i y d h

-- two places of a list
pub two_terms : {X : Type 0} (f : X → ℕ) (xs : List X) (i j : ℕ) (d : X) → i < length xs → j < length xs → j ≢ i → f (get_or xs i d) + f (get_or xs j d) ≤ sum_by f xs
two_terms f (x ∷ xs) zero zero d i_in j_in off = absurd (off refl)
two_terms f (x ∷ xs) zero (suc j) d i_in j_in off =
    omega (arith, sum_by-cons f x xs, get_or-le-sum_by f xs j d (omega (arith, j_in)))
two_terms f (x ∷ xs) (suc i) zero d i_in j_in off =
    omega (arith, sum_by-cons f x xs, get_or-le-sum_by f xs i d (omega (arith, i_in)))
two_terms f (x ∷ xs) (suc i) (suc j) d i_in j_in off =
    let tail = two_terms f xs i j d (omega (arith, i_in)) (omega (arith, j_in)) (λ is. off (ap suc is)) in
    omega (arith, sum_by-cons f x xs, tail)
two_terms f [] i j d i_in j_in off = absurd (omega (arith, i_in))

pub replicate_push : {X : Type 0} (n : ℕ) (x : X) → replicate n x ++ x ∷ [] ≡ replicate (n + 1) x
replicate_push zero x = refl
replicate_push (suc n) x =
    let more : suc n + 1 ≡ suc (n + 1) = omega arith in
    ap (λ xs. x ∷ xs) (replicate_push n x) ∙ ap (λ k. replicate k x) (sym more)

-- a sum of which one term changes
pub total-change : (f g : ℕ → ℕ) (n p : ℕ) → p < n → ((q : ℕ) → q ≢ p → f q ≡ g q) → total f n + g p ≡ total g n + f p
total-change f g zero p lt same = absurd (omega (arith, lt))
total-change f g (suc n) zero lt same =
    omega (arith, total-same (λ k. f (suc k)) (λ k. g (suc k)) n (λ k _. same (suc k) (λ is. absurd (omega (arith, is)))))
total-change f g (suc n) (suc p) lt same =
    omega (arith, same 0 (λ is. absurd (omega (arith, is))), total-change (λ k. f (suc k)) (λ k. g (suc k)) n p (omega (arith, lt)) (λ q off. same (suc q) (λ is. off (omega (arith, is)))))
