-- Lists with copies of an element after them: their places, their changes, and their sums.
use Rattle.std.proofs.Common.{◌≡◌, ℕ, zero, suc, ◌-◌, ◌<◌, ◌≤◌, ⊎_elim, cond, ltb, List, [], ◌∷◌, ◌++◌, length, get_or, set, replicate, refl, sym, ◌∙◌, ap, arith, length-append}
use Rattle.std.proofs.Math.Seq.{set-append_seam}
use Rattle.std.proofs.lemmas.List.{get_or_append_left, get_or_past, length-replicate, get_or-replicate, set-append_left, length_push}
use Rattle.std.proofs.lemmas.List.Sums.{sum_by-append, sum_by-cons}
use Rattle.std.proofs.lemmas.Bool.{cases_lt}
use Rattle.pool_base.specs.HoldCounts.{held_count}
use Rattle.pool_base.specs.Padded.{padded}

pub length-padded : {A : Type 0} (size : ℕ) (fill : A) (xs : List A) → length xs ≤ size → length (padded size fill xs) ≡ size
length-padded size fill xs le =
    omega (arith, length-append xs (replicate (size - length xs) fill), length-replicate (size - length xs) fill, le)

-- a place of the list
pub get_or-padded : {A : Type 0} (size : ℕ) (fill : A) (xs : List A) (n : ℕ) (d : A) → n < length xs → get_or (padded size fill xs) n d ≡ get_or xs n d
get_or-padded size fill xs n d lt = get_or_append_left xs (replicate (size - length xs) fill) d n lt

get_or-after : {A : Type 0} (xs ys : List A) (n : ℕ) (d : A) → length xs ≤ n → get_or (xs ++ ys) n d ≡ get_or ys (n - length xs) d
get_or-after [] ys n d le = ap (λ k. get_or ys k d) (omega arith)
get_or-after (x ∷ xs) ys zero d le = absurd (omega (arith, le))
get_or-after (x ∷ xs) ys (suc n) d le = get_or-after xs ys n d (omega (arith, le)) ∙ ap (λ k. get_or ys k d) (omega arith)

-- a place after the list
pub get_or-padding : {A : Type 0} (size : ℕ) (fill : A) (xs : List A) (n : ℕ) (d : A) → length xs ≤ n → n < size → get_or (padded size fill xs) n d ≡ fill
get_or-padding size fill xs n d le lt =
    get_or-after xs (replicate (size - length xs) fill) n d le ∙ get_or-replicate (size - length xs) (n - length xs) fill d (omega (arith, le, lt))

-- past the list a list of numbers has only its filling
pub get_or-past : (size : ℕ) (xs : List ℕ) (n : ℕ) → length xs ≤ n → get_or (padded size 0 xs) n 0 ≡ 0
get_or-past size xs n le =
    ⊎_elim
    (λ lt. get_or-padding size 0 xs n 0 le lt)
    (λ out. get_or-after xs (replicate (size - length xs) 0) n 0 le ∙ get_or_past (replicate (size - length xs) 0) (n - length xs) 0 (omega (arith, out, length-replicate {A = ℕ} (size - length xs) 0)))
    (cases_lt n size)

-- an element of the list is another
pub padded-set : {A : Type 0} (size : ℕ) (fill : A) (xs ys : List A) (n : ℕ) (x : A) → n < length xs → ys ≡ set xs n x → length ys ≡ length xs → padded size fill ys ≡ set (padded size fill xs) n x
padded-set size fill xs ys n x lt is same =
    ap (λ l. ys ++ replicate (size - l) fill) same ∙ ap (λ l. l ++ replicate (size - length xs) fill) is ∙ sym (set-append_left xs (replicate (size - length xs) fill) n x lt)

replicate-more : {A : Type 0} (n m : ℕ) (a : A) → n ≡ suc m → replicate n a ≡ a ∷ replicate m a
replicate-more n m a is = ap (λ k. replicate k a) is

append-one : {A : Type 0} (xs zs : List A) (x : A) → (xs ++ x ∷ []) ++ zs ≡ xs ++ x ∷ zs
append-one [] zs x = refl
append-one (y ∷ xs) zs x = ap (λ l. y ∷ l) (append-one xs zs x)

-- an element comes after the list
pub padded-push : {A : Type 0} (size : ℕ) (fill : A) (xs ys : List A) (n : ℕ) (x : A) → n ≡ length xs → n < size → ys ≡ xs ++ x ∷ [] → padded size fill ys ≡ set (padded size fill xs) n x
padded-push size fill xs ys n x is lt are =
    let rest : size - length xs ≡ suc (size - length ys) = let long = ap length are ∙ length_push xs x in omega (arith, is, lt, long) in
    ap (λ l. l ++ replicate (size - length ys) fill) are
    ∙ append-one xs (replicate (size - length ys) fill) x
    ∙ sym (set-append_seam xs fill (replicate (size - length ys) fill) x)
    ∙ ap (λ l. set (xs ++ l) (length xs) x) (sym (replicate-more (size - length xs) (size - length ys) fill rest))
    ∙ ap (λ k. set (padded size fill xs) k x) (sym is)

pub held-padded : (size : ℕ) (xs : List ℕ) → held_count (padded size 0 xs) ≡ held_count xs
held-padded size xs =
    let split = sum_by-append (λ c. cond (ltb 0 c) 1 0) xs (replicate (size - length xs) 0) in
    omega (arith, split, none-held (size - length xs))
  where
    none-held : (n : ℕ) → held_count (replicate n 0) ≡ 0
    none-held zero = refl
    none-held (suc n) = omega (arith, none-held n, sum_by-cons (λ c. cond (ltb 0 c) 1 0) 0 (replicate n 0))

-- what is held is one of the list
pub held-in_list : (size : ℕ) (xs : List ℕ) (n : ℕ) → 0 < get_or (padded size 0 xs) n 0 → n < length xs
held-in_list size xs n held =
    ⊎_elim (λ lt. lt) (λ past. absurd (let none = get_or-past size xs n past in omega (arith, none, held))) (cases_lt n (length xs))
