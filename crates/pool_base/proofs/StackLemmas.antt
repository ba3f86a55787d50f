-- What taking, holding and giving back a place does to the counts and to the stack of free places.
use Rattle.std.proofs.Common.{◌≡◌, ◌≢◌, ℕ, ◌+◌, ◌<◌, ⊎_elim, Bool, cond, eqb, ltb, List, [], ◌∷◌, ◌++◌, length, get_or, set, refl, sym, ◌∙◌, ap, arith, length-set, get_or-set_same, get_or-set_other}
use Rattle.std.specs.List.{count_by}
use Rattle.std.proofs.lemmas.List.{get_or_append_left, get_or_push, length_push, get_or_past}
use Rattle.std.proofs.lemmas.List.Sums.{sum_by-cons, sum_by_push, sum_by-set, get_or-le-sum_by}
use Rattle.std.proofs.lemmas.Bool.{cases_eq, ne_eqb, cases_lt}
use Rattle.std.proofs.lemmas.Bool.Decides.{nat_tests}
use Rattle.pool_base.specs.HoldCounts.{free_count, held_count, IsStack}

-- 1 where the test passes, else 0
abbrev one_if : Bool → ℕ
one_if b = cond b 1 0

one_of_two : (c : ℕ) → one_if (eqb c 0) + one_if (ltb 0 c) ≡ 1
one_of_two c = grind (arith, nat_tests)

-- each place is free or held
pub free-held : (counts : List ℕ) → free_count counts + held_count counts ≡ length counts
free-held [] = refl
free-held (c ∷ cs) =
    let free = sum_by-cons (λ x. one_if (eqb x 0)) c cs in
    let held = sum_by-cons (λ x. one_if (ltb 0 x)) c cs in
    omega (arith, free-held cs, free, held, one_of_two c)

count-yes : (n : ℕ) → one_if (eqb n n) ≡ 1
count-yes n = grind (arith, nat_tests)

count-no : (m n : ℕ) → m ≢ n → one_if (eqb m n) ≡ 0
count-no m n ne = grind (arith, nat_tests)

-- a count that is not 0 stands within the list
pub held-inside : (counts : List ℕ) (n : ℕ) → 0 < get_or counts n 0 → n < length counts
held-inside counts n held =
    ⊎_elim (λ lt. lt) (λ past. let at : get_or counts n 0 ≡ 0 = get_or_past counts n 0 past in absurd (omega arith)) (cases_lt n (length counts))

-- the place on the top of the stack is one of the places, and free
pub top-inside : (counts free rest : List ℕ) (n : ℕ) → IsStack counts free → free ≡ rest ++ n ∷ [] → n < length counts
top-inside counts free rest n stack e =
    let long : length free ≡ length rest + 1 = ap length e ∙ length_push rest n in
    let top : get_or free (length rest) 0 ≡ n = ap (λ xs. get_or xs (length rest) 0) e ∙ get_or_push rest n 0 (length rest) refl in
    omega (arith, stack.inside (length rest) (omega arith))

pub top-free : (counts free rest : List ℕ) (n : ℕ) → IsStack counts free → free ≡ rest ++ n ∷ [] → get_or counts n 0 ≡ 0
top-free counts free rest n stack e =
    let once = stack.once n (top-inside counts free rest n stack e) in
    let split : count_by (λ m. eqb m n) free ≡ count_by (λ m. eqb m n) rest + one_if (eqb n n) = ap (λ xs. count_by (λ m. eqb m n) xs) e ∙ sum_by_push (λ m. one_if (eqb m n)) rest n in
    let one = count-yes n in
    ⊎_elim (λ zero. zero) (λ ne. let no = ne_eqb (get_or counts n 0) 0 ne in absurd (grind (arith, nat_tests))) (cases_eq (get_or counts n 0) 0)

-- the top is taken off and held
pub IsStack-take : (counts free rest : List ℕ) (n : ℕ) → IsStack counts free → free ≡ rest ++ n ∷ [] → IsStack (set counts n 1) rest
IsStack-take counts free rest n stack e =
    let long : length free ≡ length rest + 1 = ap length e ∙ length_push rest n in
    let inside = top-inside counts free rest n stack e in
    let zero = top-free counts free rest n stack e in
    let size = length-set counts n 1 in
    record {
      inside = λ k lt.
          let same : get_or free k 0 ≡ get_or rest k 0 = ap (λ xs. get_or xs k 0) e ∙ get_or_append_left rest (n ∷ []) 0 k lt in
          omega (arith, stack.inside k (omega arith));
      once = λ m lt.
          let split : count_by (λ x. eqb x m) free ≡ count_by (λ x. eqb x m) rest + one_if (eqb n m) = ap (λ xs. count_by (λ x. eqb x m) xs) e ∙ sum_by_push (λ x. one_if (eqb x m)) rest n in
          let old = stack.once m (omega arith) in
          ⊎_elim
          (λ same. let at = get_or-set_same counts n 1 0 inside in grind (arith, nat_tests))
          (λ other. let at = get_or-set_other counts n m 1 0 other in let no = count-no n m (λ back. other (sym back)) in grind (arith, nat_tests))
          (cases_eq m n);
      many =
          let change = sum_by-set (λ c. one_if (eqb c 0)) counts n 1 0 inside in
          let was : one_if (eqb (get_or counts n 0) 0) ≡ 1 = grind (arith, nat_tests) in
          omega (arith, stack.many, change, was);
    }

-- a held place stays held
pub IsStack-hold : (counts free : List ℕ) (n c : ℕ) → IsStack counts free → 0 < get_or counts n 0 → 0 < c → IsStack (set counts n c) free
IsStack-hold counts free n c stack held new =
    let inside = held-inside counts n held in
    let size = length-set counts n c in
    record {
      inside = λ k lt. omega (arith, stack.inside k lt);
      once = λ m lt.
          let old = stack.once m (omega arith) in
          ⊎_elim
          (λ same. let at = get_or-set_same counts n c 0 inside in grind (arith, nat_tests))
          (λ other. let at = get_or-set_other counts n m c 0 other in grind (arith, nat_tests))
          (cases_eq m n);
      many =
          let change = sum_by-set (λ x. one_if (eqb x 0)) counts n c 0 inside in
          let was : one_if (eqb (get_or counts n 0) 0) ≡ 0 = grind (arith, nat_tests) in
          let is : one_if (eqb c 0) ≡ 0 = grind (arith, nat_tests) in
          omega (arith, stack.many, change, was, is);
    }

-- a held place comes back
pub IsStack-drop : (counts free : List ℕ) (n : ℕ) → IsStack counts free → 0 < get_or counts n 0 → IsStack (set counts n 0) (free ++ n ∷ [])
IsStack-drop counts free n stack held =
    let inside = held-inside counts n held in
    let size = length-set counts n 0 in
    let long = length_push free n in
    record {
      inside = λ k lt.
          ⊎_elim
          (λ below. let same = get_or_append_left free (n ∷ []) 0 k below in omega (arith, stack.inside k below))
          (λ above. let is : length free ≡ k = omega arith in let at = get_or_push free n 0 k is in omega arith)
          (cases_lt k (length free));
      once = λ m lt.
          let split = sum_by_push (λ x. one_if (eqb x m)) free n in
          let old = stack.once m (omega arith) in
          ⊎_elim
          (λ same. let at = get_or-set_same counts n 0 0 inside in grind (arith, nat_tests))
          (λ other. let at = get_or-set_other counts n m 0 0 other in let no = count-no n m (λ back. other (sym back)) in grind (arith, nat_tests))
          (cases_eq m n);
      many =
          let change = sum_by-set (λ x. one_if (eqb x 0)) counts n 0 0 inside in
          let was : one_if (eqb (get_or counts n 0) 0) ≡ 0 = grind (arith, nat_tests) in
          omega (arith, stack.many, change, was);
    }

-- where a place is held, not all are free
pub length-free-held : (counts free : List ℕ) (n : ℕ) → IsStack counts free → 0 < get_or counts n 0 → length free < length counts
length-free-held counts free n stack held =
    let one = get_or-le-sum_by (λ x. one_if (ltb 0 x)) counts n 0 (held-inside counts n held) in
    let yes : one_if (ltb 0 (get_or counts n 0)) ≡ 1 = grind (arith, nat_tests) in
    omega (arith, free-held counts, one, yes, stack.many)
