-- What opening, making a row and changing one do to the rows.
use Rattle.std.proofs.Common.{◌≡◌, ℕ, zero, suc, ◌+◌, ◌-◌, ◌<◌, ◌≤◌, ⊎_elim, cond, ltb, List, [], ◌∷◌, ◌++◌, length, map, get_or, set, replicate, refl, sym, ◌∙◌, ap, arith, length-set, get_or-set_same, get_or-set_other, ext_get_or}
use Rattle.std.specs.Prelude.{count_by, nat_lt}
use Rattle.std.proofs.lemmas.List.{length-map, get_or_append_left, get_or_push, get_or_default, get_or-map, set-append_right}
use Rattle.std.proofs.lemmas.List.Sums.{count_by-le-length, sum_by-set}
use Rattle.std.proofs.lemmas.Bool.{cases_eq}
use Rattle.late_rows.specs.Rows.{IsKept, rows_of}

-- a row that was not made leaves room
count-room : (numbers : List ℕ) (row : ℕ) → row < length numbers → get_or numbers row 0 ≡ 0 → count_by (nat_lt 0) numbers + 1 ≤ length numbers
count-room numbers row inside none =
    let more = sum_by-set (λ n. cond (ltb 0 n) 1 0) numbers row 1 0 inside in
    let few = count_by-le-length (nat_lt 0) (set numbers row 1) in
    let was = ap {B = ℕ} (λ n. cond (ltb 0 n) 1 0) none in
    omega (arith, more, few, was, length-set numbers row 1)

-- the first of the back part is another
pub back-set : {A : Type 0} (front back : List A) (n : ℕ) (value : A) → length front ≡ n → front ++ set back 0 value ≡ set (front ++ back) n value
back-set front back n value long =
    ap (λ k. front ++ set back k value) (let none : 0 ≡ n - n = omega arith in none) ∙ sym (set-append_right front back n n value long (omega arith))

module _ {A : Type 0} (fresh : A) where
  abbrev at : List A → ℕ → A
  at made n = get_or made n fresh

  pub rows-opened : (count : ℕ) (numbers : List ℕ) (made : List A) → numbers ≡ replicate count 0 → at made 0 ≡ fresh → rows_of fresh numbers made ≡ replicate count fresh
  rows-opened count numbers made are first = ap (λ ns. map (at made) ns) are ∙ all count
    where
      all : (n : ℕ) → map (at made) (replicate n 0) ≡ replicate n fresh
      all zero = refl
      all (suc n) = ap (λ x. x ∷ map (at made) (replicate n 0)) first ∙ ap (λ xs. fresh ∷ xs) (all n)

  pub made-few : (capacity : ℕ) (numbers : List ℕ) (made : List A) (row : ℕ) → IsKept fresh capacity numbers made → row < length numbers → get_or numbers row 0 ≡ 0 → length made ≤ length numbers
  made-few capacity numbers made row kept inside none = omega (arith, kept.counted, count-room numbers row inside none)

  -- each row is as it was once a row is made
  pub rows-made : (capacity : ℕ) (numbers : List ℕ) (made : List A) (row : ℕ) → IsKept fresh capacity numbers made → row < length numbers → get_or numbers row 0 ≡ 0 →
      rows_of fresh (set numbers row (length made)) (made ++ fresh ∷ []) ≡ rows_of fresh numbers made
  rows-made capacity numbers made row kept inside none =
      ext_get_or fresh _ _
      (length-map (set numbers row (length made)) (at (made ++ fresh ∷ [])) ∙ length-set numbers row (length made) ∙ sym (length-map numbers (at made)))
      (λ i lt. let here : i < length numbers = omega (arith, lt, length-map (set numbers row (length made)) (at (made ++ fresh ∷ [])), length-set numbers row (length made)) in
      get_or-map (at (made ++ fresh ∷ [])) (set numbers row (length made)) i 0 fresh (omega (arith, here, length-set numbers row (length made)))
      ∙ each i here
      ∙ sym (get_or-map (at made) numbers i 0 fresh here))
    where
      each : (i : ℕ) → i < length numbers → at (made ++ fresh ∷ []) (get_or (set numbers row (length made)) i 0) ≡ at made (get_or numbers i 0)
      each i here =
          ⊎_elim
          (λ same. ap (λ j. at (made ++ fresh ∷ []) (get_or (set numbers row (length made)) j 0)) same
          ∙ ap (at (made ++ fresh ∷ [])) (get_or-set_same numbers row (length made) 0 inside)
          ∙ get_or_push made fresh fresh (length made) refl
          ∙ sym kept.first
          ∙ ap (at made) (sym none)
          ∙ ap (λ j. at made (get_or numbers j 0)) (sym same))
          (λ other. ap (at (made ++ fresh ∷ [])) (get_or-set_other numbers row i (length made) 0 other)
          ∙ get_or_append_left made (fresh ∷ []) fresh (get_or numbers i 0) (kept.within i))
          (cases_eq i row)

  -- one row is another once it is written where it was made
  pub rows-set : (capacity : ℕ) (numbers : List ℕ) (made : List A) (row number : ℕ) (value : A) → IsKept fresh capacity numbers made → row < length numbers → number ≡ get_or numbers row 0 → 0 < number →
      rows_of fresh numbers (set made number value) ≡ set (rows_of fresh numbers made) row value
  rows-set capacity numbers made row number value kept inside is changed =
      ext_get_or fresh _ _
      (length-map numbers (at (set made number value)) ∙ sym (length-set (rows_of fresh numbers made) row value ∙ length-map numbers (at made)))
      (λ i lt. let here : i < length numbers = omega (arith, lt, length-map numbers (at (set made number value))) in
      get_or-map (at (set made number value)) numbers i 0 fresh here ∙ each i here)
    where
      each : (i : ℕ) → i < length numbers → at (set made number value) (get_or numbers i 0) ≡ get_or (set (rows_of fresh numbers made) row value) i fresh
      each i here =
          ⊎_elim
          (λ same. ap (λ j. at (set made number value) (get_or numbers j 0)) same
          ∙ ap (at (set made number value)) (sym is)
          ∙ get_or-set_same made number value fresh (omega (arith, is, kept.within row))
          ∙ sym (get_or-set_same (rows_of fresh numbers made) row value fresh (omega (arith, inside, length-map numbers (at made))))
          ∙ ap (λ j. get_or (set (rows_of fresh numbers made) row value) j fresh) (sym same))
          (λ other. get_or-set_other made number (get_or numbers i 0) value fresh
          (λ e. other (sym (kept.apart row i (sym (e ∙ is)) (omega (arith, is, changed)))))
          ∙ sym (get_or-map (at made) numbers i 0 fresh here)
          ∙ sym (get_or-set_other (rows_of fresh numbers made) row i value fresh other))
          (cases_eq i row)

  -- a row is what is read where it was made
  pub row-read : (capacity : ℕ) (numbers : List ℕ) (made : List A) (row number : ℕ) (value : A) → IsKept fresh capacity numbers made → row < length numbers → number ≡ get_or numbers row 0 →
      value ≡ get_or made number value → value ≡ get_or (rows_of fresh numbers made) row value
  row-read capacity numbers made row number value kept inside is read =
      read ∙ get_or_default made number value fresh (omega (arith, is, kept.within row)) ∙ ap (at made) is ∙ sym (get_or-map (at made) numbers row 0 value inside)
