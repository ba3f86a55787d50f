-- Values one after another: what is read of them is what was written, and what was written is read again.
use Rattle.std.proofs.Common.{◌≡◌, inl, inr, ℕ, zero, suc, ◌+◌, ◌-◌, ◌<◌, List, [], ◌∷◌, ◌++◌, length, Ok, Err, refl, sym, ap, subst, ◌∙◌, append_assoc, arith}
use Rattle.std.specs.List.{flat_map}
use Rattle.std.proofs.lemmas.List.{append-nil, flat_map_more, length-append, length_push}
use Rattle.std.proofs.lemmas.List.Concat.{flat_map-cons}
use Rattle.guest_image.specs.declared.fault.ImageRule.{ImageRule}
use Rattle.guest_image.specs.declared.image.Form.{Form}
use Rattle.guest_image.specs.Rest.{Rest}
use Rattle.guest_image.specs.Reading.{list_at}
use Rattle.guest_image.specs.Refusals.{AllValues, SomeValues}
use Rattle.guest_image.proofs.FieldLaws.{IsBytes, from, bind_ok, bind_err, ok_is, Takes, Takes-then}
use Rattle.guest_image.proofs.Loops.{Reader}
use Rattle.guest_image.proofs.Stops.{Stops}
use Rattle.lwc_types.specs.Outcomes.{Refusal}

-- what is read is spelled so, and then P holds of it and those before it
pub record TakesEach {A : Type 0} (P : List A → Type 0) (spell : A → List ℕ) (read : Reader A) : Type 0 where
  pub takes : (before : List A) (r : Rest) (x : A) (after : Rest) → IsBytes r.bytes → P before → read before r ≡ Ok (x, after) → Takes r (spell x) after × P (before ++ x ∷ [])

-- what is spelled so is read, where P holds of it and those before it
pub record ReadsEach {A : Type 0} (P : List A → Type 0) (spell : A → List ℕ) (read : Reader A) : Type 0 where
  pub reads : (before : List A) (x : A) (at : ℕ) (rest : List ℕ) → P (before ++ x ∷ []) → read before (from at (spell x ++ rest)) ≡ Ok (x, from (at + length (spell x)) rest)
  pub front : (before after : List A) → P (before ++ after) → P before

module _ {A : Type 0} (file : Rest) (P : List A → Type 0) (spell : A → List ℕ) (read : Reader A) (law : TakesEach P spell read) (count : ℕ) (start : List ℕ) where
  abbrev spelled : List A → List ℕ
  spelled values = start ++ flat_map spell values

  -- one more value
  one_more : (values : List A) (r : Rest) (x : A) (after : Rest) → Takes file (spelled values) r → P values → read values r ≡ Ok (x, after) → Takes file (spelled (values ++ x ∷ [])) after × P (values ++ x ∷ [])
  one_more values r x after t p e =
      let one = law.takes values r x after t.rest_fits p e in
      (subst (λ (l : List ℕ). Takes file l after) (flat_map_more spell start values x) (Takes-then file (spelled values) r (spell x) after t one.0), one.1)

  none_yet : (r : Rest) → Takes file start r → Takes file (spelled []) r
  none_yet r t = subst (λ (l : List ℕ). Takes file l r) (sym (append-nil start)) t

  list_takes : (n : ℕ) (values : List A) (r : Rest) (xs : List A) (after : Rest) → length values + n ≡ count → P values → Takes file (spelled values) r → list_at read n values r ≡ Ok (xs, after) → P xs × (length xs ≡ count) × Takes file (spelled xs) after
  unfolding list_at
  list_takes zero values r xs after len p t e =
      subst (λ (y : List A × Rest). P y.0 × (length y.0 ≡ count) × Takes file (spelled y.0) y.1) (ok_is (values, r) (xs, after) e) (p, omega arith, t)
  list_takes (suc n) values r xs after len p t e =
      let b = bind_ok (read values r) (λ x. list_at read n (values ++ x.0 ∷ []) x.1) (xs, after) e in
      let one = one_more values r b.0.0 b.0.1 t p b.1 in
      list_takes n (values ++ b.0.0 ∷ []) b.0.1 xs after (omega (arith, length_push values b.0.0)) one.1 one.0 b.2

  -- all values were read
  pub values_take : (r : Rest) (xs : List A) (after : Rest) → P [] → Takes file start r → list_at read count [] r ≡ Ok (xs, after) → P xs × (length xs ≡ count) × Takes file (spelled xs) after
  values_take r xs after p t e = list_takes count [] r xs after (omega arith) p (none_yet r t) e

  module _ {form : Form} (Before : List ℕ → Type 0) (before : Before start)
      (item : (values : List A) (front : List ℕ) (r : Rest) (s : Refusal ImageRule) → SomeValues Before P spell count values front → Takes file front r → read values r ≡ Err s → Stops form file s) where
    list_stop : (n : ℕ) (values : List A) (r : Rest) (s : Refusal ImageRule) → length values + n ≡ count → P values → Takes file (spelled values) r → list_at read n values r ≡ Err s → Stops form file s
    unfolding list_at
    list_stop zero values r s len p t e = absurd cc
    list_stop (suc n) values r s len p t e =
        elim (bind_err (read values r) (λ x. list_at read n (values ++ x.0 ∷ []) x.1) s e) [
          | inl e1 ↦ item values (spelled values) r s (record { start = start; before = before; valid = p; spelled = refl }, omega arith) t e1
          | inr b ↦
              let one = one_more values r b.0.0 b.0.1 t p b.1 in
              list_stop n (values ++ b.0.0 ∷ []) b.0.1 s (omega (arith, length_push values b.0.0)) one.1 one.0 b.2
        ]

    -- not all values were read
    pub values_stop : (r : Rest) (s : Refusal ImageRule) → P [] → Takes file start r → list_at read count [] r ≡ Err s → Stops form file s
    values_stop r s p t e = list_stop count [] r s (omega arith) p (none_yet r t) e

module _ {A : Type 0} (P : List A → Type 0) (spell : A → List ℕ) (read : Reader A) (law : ReadsEach P spell read) where
  -- behind values that were read the next is read
  list_again : (new before : List A) (n at : ℕ) (rest : List ℕ) → P (before ++ new) → list_at read (length new + n) before (from at (flat_map spell new ++ rest)) ≡ list_at read n (before ++ new) (from (at + length (flat_map spell new)) rest)
  unfolding list_at
  list_again [] before n at rest p =
      let none : 0 + n ≡ n = omega arith in
      let here : at + 0 ≡ at = omega arith in
      rw (none, append-nil, here) refl
  list_again (x ∷ new) before n at rest p =
      let regrouped : flat_map spell (x ∷ new) ++ rest ≡ spell x ++ (flat_map spell new ++ rest) = ap (λ (t : List ℕ). t ++ rest) (flat_map-cons spell x new) ∙ append_assoc (spell x) (flat_map spell new) rest in
      let one : before ++ (x ∷ new) ≡ (before ++ x ∷ []) ++ new = sym (append_assoc before (x ∷ []) new) in
      let q : P ((before ++ x ∷ []) ++ new) = subst P one p in
      let first : read before (from at (spell x ++ (flat_map spell new ++ rest))) ≡ Ok (x, from (at + length (spell x)) (flat_map spell new ++ rest)) = law.reads before x at (flat_map spell new ++ rest) (law.front (before ++ x ∷ []) new q) in
      let next : length (x ∷ new) + n ≡ suc (length new + n) = omega arith in
      let place : (at + length (spell x)) + length (flat_map spell new) ≡ at + length (flat_map spell (x ∷ new)) = omega (arith, ap length (flat_map-cons spell x new), length-append (spell x) (flat_map spell new)) in
      let step : list_at read (suc (length new + n)) before (from at (spell x ++ (flat_map spell new ++ rest))) ≡ list_at read (length new + n) (before ++ x ∷ []) (from (at + length (spell x)) (flat_map spell new ++ rest)) = rw first refl in
      ap (λ (k : ℕ). list_at read k before (from at (flat_map spell (x ∷ new) ++ rest))) next
      ∙ ap (λ (bytes : List ℕ). list_at read (suc (length new + n)) before (from at bytes)) regrouped
      ∙ step
      ∙ list_again new (before ++ x ∷ []) n (at + length (spell x)) rest q
      ∙ ap (λ (xs : List A). list_at read n xs (from ((at + length (spell x)) + length (flat_map spell new)) rest)) (sym one)
      ∙ ap (λ (k : ℕ). list_at read n (before ++ (x ∷ new)) (from k rest)) place

  -- the values that were written are read, whatever follows
  pub values_again : (xs : List A) (at : ℕ) (rest : List ℕ) → P xs → list_at read (length xs) [] (from at (flat_map spell xs ++ rest)) ≡ Ok (xs, from (at + length (flat_map spell xs)) rest)
  unfolding list_at
  values_again xs at rest p =
      let none : length xs ≡ length xs + 0 = omega arith in
      ap (λ (k : ℕ). list_at read k [] (from at (flat_map spell xs ++ rest))) none ∙ list_again xs [] 0 at rest p

  -- a value that is refused is refused behind those that are read
  pub values_fail : (xs : List A) (count at : ℕ) (rest : List ℕ) (s : Refusal ImageRule) → P xs → length xs < count → read xs (from (at + length (flat_map spell xs)) rest) ≡ Err s
      → list_at read count [] (from at (flat_map spell xs ++ rest)) ≡ Err s
  unfolding list_at
  values_fail xs count at rest s p short e = by_more (count - (length xs + 1)) (omega arith)
    where
      by_more : (n : ℕ) → count ≡ length xs + suc n → list_at read count [] (from at (flat_map spell xs ++ rest)) ≡ Err s
      by_more n more =
          ap (λ (k : ℕ). list_at read k [] (from at (flat_map spell xs ++ rest))) more
          ∙ list_again xs [] (suc n) at rest p
          ∙ rw e refl

  module _ (Before : List ℕ → Type 0) (count : ℕ) (State : List ℕ → Rest → Type 0) (reaches : (start rest : List ℕ) → Before start → State (start ++ rest) (from (length start) rest)) where
    -- behind a whole list the reading comes to what follows it
    pub all_read : (before rest : List ℕ) → AllValues Before P spell count before → (r : Rest) × (values : List A) × State (before ++ rest) r × (list_at read count [] r ≡ Ok (values, from (length before) rest))
    all_read before rest (values, v, full) =
        let tail = flat_map spell values ++ rest in
        let place : length v.start + length (flat_map spell values) ≡ length before = omega (arith, ap length v.spelled, length-append v.start (flat_map spell values)) in
        let bytes : v.start ++ tail ≡ before ++ rest = sym (append_assoc v.start (flat_map spell values) rest) ∙ ap (λ (t : List ℕ). t ++ rest) (sym v.spelled) in
        let got = values_again values (length v.start) rest v.valid in (
          from (length v.start) tail,
          values,
          subst (λ (b : List ℕ). State b (from (length v.start) tail)) bytes (reaches v.start tail v.before),
          ap (λ (k : ℕ). list_at read k [] (from (length v.start) tail)) (sym full) ∙ got ∙ ap (λ (k : ℕ). Ok (values, from k rest)) place,
        )

    -- a value that is refused in a list is refused where the reading comes to the list
    pub some_fail : (values : List A) (before rest : List ℕ) (s : Refusal ImageRule) → SomeValues Before P spell count values before → read values (from (length before) rest) ≡ Err s
        → (r : Rest) × State (before ++ rest) r × (list_at read count [] r ≡ Err s)
    some_fail values before rest s (v, short) e =
        let tail = flat_map spell values ++ rest in
        let place : length before ≡ length v.start + length (flat_map spell values) = omega (arith, ap length v.spelled, length-append v.start (flat_map spell values)) in
        let bytes : v.start ++ tail ≡ before ++ rest = sym (append_assoc v.start (flat_map spell values) rest) ∙ ap (λ (t : List ℕ). t ++ rest) (sym v.spelled) in (
          from (length v.start) tail,
          subst (λ (b : List ℕ). State b (from (length v.start) tail)) bytes (reaches v.start tail v.before),
          values_fail values count (length v.start) rest s v.valid short (subst (λ (k : ℕ). read values (from k rest) ≡ Err s) place e),
        )
