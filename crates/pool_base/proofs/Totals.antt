-- Sums over the numbers below a number.
use Rattle.std.proofs.Common.{◌≡◌, ◌≢◌, ℕ, zero, suc, ◌+◌, ◌-◌, ◌*◌, ◌<◌, ◌≤◌, ◌⊎◌, inl, inr, ⊎_elim, Bool, cond, eqb, List, [], ◌∷◌, length, get_or, refl, sym, ◌∙◌, ap, arith}
use Rattle.std.specs.List.{sum_by}
use Rattle.std.proofs.lemmas.List.Sums.{sum_by-cons}
use Rattle.std.proofs.lemmas.Bool.{cases_eq, cases_lt, eq-eqb, ne_eqb}

-- 1 where a test passes, else 0
abbrev pub one_if : Bool → ℕ
one_if b = cond b 1 0

pub one_if-yes : (m n : ℕ) → m ≡ n → one_if (eqb m n) ≡ 1
one_if-yes m n is = ap (λ b. one_if b) (eq-eqb m n is)

pub one_if-no : (m n : ℕ) → m ≢ n → one_if (eqb m n) ≡ 0
one_if-no m n off = ap (λ b. one_if b) (ne_eqb m n off)

-- f 0 + f 1 + .. up to and without f n
abbrev pub total : (ℕ → ℕ) → ℕ → ℕ
total f zero = 0
total f (suc n) = f 0 + total (λ k. f (suc k)) n

pub total-le : (f g : ℕ → ℕ) (n : ℕ) → ((k : ℕ) → k < n → f k ≤ g k) → total f n ≤ total g n
total-le f g zero h = omega arith
total-le f g (suc n) h =
    let head = h 0 (omega arith) in
    let tail = total-le (λ k. f (suc k)) (λ k. g (suc k)) n (λ k lt. h (suc k) (omega (arith, lt))) in
    omega (arith, head, tail)

pub total-same : (f g : ℕ → ℕ) (n : ℕ) → ((k : ℕ) → k < n → f k ≡ g k) → total f n ≡ total g n
total-same f g zero h = refl
total-same f g (suc n) h =
    let head = h 0 (omega arith) in
    let tail = total-same (λ k. f (suc k)) (λ k. g (suc k)) n (λ k lt. h (suc k) (omega (arith, lt))) in
    omega (arith, head, tail)

pub total-zero : (n : ℕ) → total (λ k. 0) n ≡ 0
total-zero zero = refl
total-zero (suc n) = let tail = total-zero n in omega (arith, tail)

pub total-one : (n : ℕ) → total (λ k. 1) n ≡ n
total-one zero = refl
total-one (suc n) = let tail = total-one n in omega (arith, tail)

pub total-add : (f g : ℕ → ℕ) (n : ℕ) → total (λ k. f k + g k) n ≡ total f n + total g n
total-add f g zero = refl
total-add f g (suc n) = let tail = total-add (λ k. f (suc k)) (λ k. g (suc k)) n in omega (arith, tail)

pub total-times : (c : ℕ) (f : ℕ → ℕ) (n : ℕ) → total (λ k. c * f k) n ≡ c * total f n
total-times c f zero = omega arith
total-times c f (suc n) = let tail = total-times c (λ k. f (suc k)) n in omega (arith, tail)

-- rows by columns are columns by rows
pub total-swap : (f : ℕ → ℕ → ℕ) (n m : ℕ) → total (λ a. total (λ b. f a b) m) n ≡ total (λ b. total (λ a. f a b) n) m
total-swap f zero m = sym (total-zero m)
total-swap f (suc n) m =
    let tail = total-swap (λ a b. f (suc a) b) n m in
    let both = total-add (λ b. f 0 b) (λ b. total (λ a. f (suc a) b) n) m in
    omega (arith, tail, both)

-- a sum over a list is one over its places
pub total-list : {X : Type 0} (f : X → ℕ) (xs : List X) (d : X) → sum_by f xs ≡ total (λ k. f (get_or xs k d)) (length xs)
total-list f [] d = refl
total-list f (x ∷ xs) d = let tail = total-list f xs d in omega (arith, tail, sum_by-cons f x xs)

pub none_or_some : (m : ℕ) → (m ≡ 0) ⊎ (0 < m)
none_or_some m = ⊎_elim (λ lt. inr lt) (λ le. inl (omega (arith, le))) (cases_lt 0 m)

-- a sum that is more than 0 has a term that is
pub total-some : (f : ℕ → ℕ) (n : ℕ) → 0 < total f n → (k : ℕ) × ((k < n) × (0 < f k))
total-some f zero h = absurd (omega (arith, h))
total-some f (suc n) h =
    ⊎_elim
    (λ none. let tail = total-some (λ k. f (suc k)) n (omega (arith, h, none)) in (suc tail.0, (omega (arith, tail.1.0), tail.1.1)))
    (λ some. (0, (omega arith, some)))
    (none_or_some (f 0))

-- where a number is none of these, none is counted
total-none : (t : ℕ) (g : ℕ → ℕ) (n : ℕ) → ((k : ℕ) → t ≢ g k) → total (λ k. one_if (eqb t (g k))) n ≡ 0
total-none t g n off = total-same (λ k. one_if (eqb t (g k))) (λ k. 0) n (λ k _. one_if-no t (g k) (off k)) ∙ total-zero n

total-shift : (t n : ℕ) → 0 < t → total (λ k. one_if (eqb t (suc k + 1))) n ≡ total (λ k. one_if (eqb (t - 1) (k + 1))) n
total-shift t n some = total-same (λ k. one_if (eqb t (suc k + 1))) (λ k. one_if (eqb (t - 1) (k + 1))) n (λ k _.
    ⊎_elim
    (λ is. one_if-yes t (suc k + 1) is ∙ sym (one_if-yes (t - 1) (k + 1) (omega (arith, is))))
    (λ no. one_if-no t (suc k + 1) no ∙ sym (one_if-no (t - 1) (k + 1) (λ is. no (omega (arith, is, some)))))
    (cases_eq t (suc k + 1)))

-- a number is the next one of at most one number
pub total-once : (t n : ℕ) → total (λ k. one_if (eqb t (k + 1))) n ≤ 1
total-once t zero = omega arith
total-once t (suc n) =
    ⊎_elim
    (λ is.
    let head = one_if-yes t 1 is in
    let tail = total-none t (λ k. suc k + 1) n (λ k e. absurd (omega (arith, is, e))) in
    omega (arith, head, tail))
    (λ no. let head = one_if-no t 1 no in ⊎_elim
    (λ none. let tail = total-none t (λ k. suc k + 1) n (λ k e. absurd (omega (arith, none, e))) in omega (arith, head, tail))
    (λ some. let tail = total-once (t - 1) n in let same = total-shift t n some in omega (arith, head, tail, same))
    (none_or_some t))
    (cases_eq t 1)

pub total-at : (f : ℕ → ℕ) (n k : ℕ) → k < n → f k ≤ total f n
total-at f zero k lt = absurd (omega (arith, lt))
total-at f (suc n) zero lt = omega arith
total-at f (suc n) (suc k) lt = let tail = total-at (λ j. f (suc j)) n k (omega (arith, lt)) in omega (arith, tail)

pub total-two : (f : ℕ → ℕ) (n j k : ℕ) → j < n → k < n → j ≢ k → f j + f k ≤ total f n
total-two f zero j k j_in k_in off = absurd (omega (arith, j_in))
total-two f (suc n) zero zero j_in k_in off = absurd (off refl)
total-two f (suc n) zero (suc k) j_in k_in off = let tail = total-at (λ m. f (suc m)) n k (omega (arith, k_in)) in omega (arith, tail)
total-two f (suc n) (suc j) zero j_in k_in off = let tail = total-at (λ m. f (suc m)) n j (omega (arith, j_in)) in omega (arith, tail)
total-two f (suc n) (suc j) (suc k) j_in k_in off = let tail = total-two (λ m. f (suc m)) n j k (omega (arith, j_in)) (omega (arith, k_in)) (λ is. off (ap suc is)) in omega (arith, tail)

-- what is more than its part at one place is more than nothing at another
pub total-other : (f : ℕ → ℕ) (n k : ℕ) → k < n → f k < total f n → (j : ℕ) × ((j < n) × ((j ≢ k) × (0 < f j)))
total-other f zero k lt more = absurd (omega (arith, lt))
total-other f (suc n) zero lt more =
    let some = total-some (λ j. f (suc j)) n (omega (arith, more)) in
    (suc some.0, (omega (arith, some.1.0), ((λ is. absurd (omega (arith, is))), some.1.1)))
total-other f (suc n) (suc k) lt more =
    ⊎_elim
    (λ none.
    let rest = total-other (λ j. f (suc j)) n k (omega (arith, lt)) (omega (arith, more, none)) in
    (suc rest.0, (omega (arith, rest.1.0), ((λ is. rest.1.1.0 (omega (arith, is))), rest.1.1.1))))
    (λ some. (0, (omega arith, ((λ is. absurd (omega (arith, is))), some))))
    (none_or_some (f 0))

-- over rows and columns
abbrev pub total2 : (ℕ → ℕ → ℕ) → ℕ → ℕ → ℕ
total2 h n m = total (λ a. total (λ b. h a b) m) n

-- another place than this one
abbrev pub IsElsewhere : ℕ → ℕ → ℕ → ℕ → Type 0
IsElsewhere a b c d = (c ≢ a) ⊎ ((c ≡ a) × (d ≢ b))

pub total2-two : (h : ℕ → ℕ → ℕ) (n m a b c d : ℕ) → a < n → b < m → c < n → d < m → IsElsewhere a b c d → 0 < h a b → 0 < h c d → 2 ≤ total2 h n m
total2-two h n m a b c d a_in b_in c_in d_in apart one two =
    let first = total-at (λ j. h a j) m b b_in in
    let second = total-at (λ j. h c j) m d d_in in
    ⊎_elim
    (λ off. let both = total-two (λ k. total (λ j. h k j) m) n c a c_in a_in off in omega (arith, both, first, second, one, two))
    (λ same.
    let both = total-two (λ j. h a j) m d b d_in b_in same.1 in
    let row = total-at (λ k. total (λ j. h k j) m) n a a_in in
    let at = ap (λ k. h k d) same.0 in
    omega (arith, both, row, at, one, two))
    apart

pub record Elsewhere (h : ℕ → ℕ → ℕ) (n m a b : ℕ) : Type 0 where
  pub c : ℕ
  pub d : ℕ
  pub c_in : c < n
  pub d_in : d < m
  pub apart : IsElsewhere a b c d
  pub some : 0 < h c d

pub total2-other : (h : ℕ → ℕ → ℕ) (n m a b : ℕ) → a < n → b < m → h a b ≤ 1 → 2 ≤ total2 h n m → Elsewhere h n m a b
total2-other h n m a b a_in b_in once more =
    ⊎_elim
    (λ inner.
    let at = total-other (λ j. h a j) m b b_in (omega (arith, inner, once)) in
    record { c = a; d = at.0; c_in = a_in; d_in = at.1.0; apart = inr (refl, at.1.1.0); some = at.1.1.1 })
    (λ outer.
    let row = total-other (λ k. total (λ j. h k j) m) n a a_in (omega (arith, outer, more)) in
    let at = total-some (λ j. h row.0 j) m row.1.1.1 in
    record { c = row.0; d = at.0; c_in = row.1.0; d_in = at.1.0; apart = inl row.1.1.0; some = at.1.1 })
    (cases_lt 1 (total (λ j. h a j) m))
