-- Rows by name, and the map that they stand for.
use Rattle.std.proofs.Common.{◌≡◌, ℕ, zero, suc, ◌+◌, ◌<◌, ◌≤◌, List, [], ◌∷◌, arith, length, refl, sym, ap, subst, ◌∙◌, Bool, true, false, cond, Option, Some, None, get_or, map, not, eqb}
use Rattle.std.specs.Prelude.{T, ◌&&◌, if◌then◌else◌, nat_lt, is_ok, slice_get, All, Err, IsOk, Ok, Result}
use Rattle.std.specs.List.{filter, position, position_or_len, insert}
use Rattle.std.specs.Option.{option_map}
use Rattle.std.specs.Ordering.{is_eq, is_lt, ordering_reverse}
use Rattle.std.specs.declared.cmp.Ordering.{Ordering}
use Rattle.std.specs.declared.cmp.Ordering.TheVariants.{Less, Equal, Greater}
use Rattle.std.specs.Cmp.{eq_by_cmp_equiv}
use Rattle.std.specs.FinMap as fm
use Rattle.std.specs.FinMap.Entries.{below_all, by_order, find-where_key, is_sorted-where_key}
use Rattle.std.proofs.Math.ListN.{set}
use Rattle.std.proofs.lemmas.Bool.{eq-eqb, false≢true, lt-ltb, ltb-false, ltb-true}
use Rattle.std.proofs.lemmas.Bool.Decides.{nat_tests}
use Rattle.std.proofs.lemmas.Option.{get_or_from_slice_get, slice_get_within}
use Rattle.std.proofs.lemmas.List.{length-map}
use Rattle.std.proofs.lemmas.List.Elements.{All-cons, All-head, All-nil, All-tail}
use Rattle.lwc_types.specs.declared.name.Name.{Name}
use Rattle.lwc_types.specs.Names.{name_cmp}
use Rattle.whole_world.specs.Tables.{has_name, is_past, map_of}
use Rattle.lwc_base.proofs.Facts.{orders}
use Rattle.lwc_types.proofs.Orders.{same_name}
use Rattle.lwc_types.proofs.Small.{alike, equal_of, mapped_choice, nothing_found, same_some}

here : (b : Bool) (n : ℕ) → cond (not b) (1 + n) 0 ≡ 0 → b ≡ true
here true n e = refl
here false n e = absurd (omega arith)

further : (b : Bool) (n i : ℕ) → cond (not b) (1 + n) 0 ≡ suc i → b ≡ false
further true n i e = absurd (omega arith)
further false n i e = refl

further_place : (b : Bool) (n i : ℕ) → cond (not b) (1 + n) 0 ≡ suc i → n ≡ i
further_place true n i e = absurd (omega arith)
further_place false n i e = omega arith

found_place : (b : Bool) (n i : ℕ) → cond b (Some n) None ≡ Some i → (b ≡ true) × (n ≡ i)
found_place true n i e = (refl, same_some n i e)
found_place false n i e = cc

-- a place that is found
pub record IsPlace {E : Type 0} (test : E → Bool) (rows : List E) (i : ℕ) : Type 0 where
  pub first : position_or_len test rows ≡ i
  pub within : i < length rows

pub place_found : {E : Type 0} (test : E → Bool) (rows : List E) (i : ℕ) → position test rows ≡ Some i → IsPlace test rows i
place_found test rows i e =
    let f = found_place (nat_lt (position_or_len test rows) (length rows)) (position_or_len test rows) i e in
    record { first = f.1; within = subst (λ n. n < length rows) f.1 (ltb-true _ _ f.0) }

-- no place is past the last row
pub place_within : {E : Type 0} (test : E → Bool) (rows : List E) → position_or_len test rows ≤ length rows
place_within test [] = omega arith
place_within test (e ∷ es) =
    let rest : position_or_len test es ≤ length es = place_within test es in
    elim (test e) as (λ b. cond (not b) (1 + position_or_len test es) 0 ≤ suc (length es)) [ true ↦ omega arith | false ↦ omega arith ]

-- where no place is found, it is past the last row
pub place_past_all : {E : Type 0} (test : E → Bool) (rows : List E) → position test rows ≡ None → length rows ≡ position_or_len test rows
place_past_all test rows e =
    let past : length rows ≤ position_or_len test rows = ltb-false _ _ (nothing_found (nat_lt (position_or_len test rows) (length rows)) (position_or_len test rows) e) in
    let within : position_or_len test rows ≤ length rows = place_within test rows in
    omega arith

-- the first of two, where a result is a success
pub chosen_ok : {A V F : Type 0} (r : Result V F) (x y : A) → IsOk r → (if is_ok r then x else y) ≡ x
chosen_ok (Ok v) x y ok = refl
chosen_ok (Err e) x y ok = absurd (false≢true ok)

-- the place of the first element that passes a test
at_place : {E : Type 0} (test : E → Bool) (rows : List E) (i : ℕ) → position_or_len test rows ≡ i → i < length rows → position test rows ≡ Some i
at_place test rows i first within = ap (λ j. cond (nat_lt j (length rows)) (Some j) None) first ∙ ap (λ b. cond b (Some i) None) (lt-ltb i (length rows) within)

-- whether a place is the one that was found
abbrev pub is_place : ℕ → Option ℕ → Bool
is_place i None = false
is_place i (Some j) = eqb i j

eqb-same : (m n : ℕ) → eqb m n ≡ true → m ≡ n
eqb-same m n same = grind (arith, nat_tests)

less_of : (r : Ordering) → is_lt r ≡ true → r ≡ Less
less_of Less e = refl
less_of Equal e = cc
less_of Greater e = cc

greater_of : (r : Ordering) → is_lt r ≡ false → is_eq r ≡ false → r ≡ Greater
greater_of Less e f = cc
greater_of Equal e f = cc
greater_of Greater e f = refl

not_first : {A : Type 0} (b : Bool) (x : A) (o : Option A) → cond b (Some x) o ≡ None → b ≡ false
not_first true x o none = cc
not_first false x o none = refl

not_later : {A : Type 0} (b : Bool) (x : A) (o : Option A) → cond b (Some x) o ≡ None → o ≡ None
not_later true x o none = cc
not_later false x o none = none

first_true : (a b : Bool) → T (a && b) → a ≡ true
first_true true b p = refl
first_true false b p = absurd p

both_first : (a b : Bool) → T (a && b) → T a
both_first true b p = tt
both_first false b p = absurd p

both_second : (a b : Bool) → T (a && b) → T b
both_second true b p = p
both_second false b p = absurd p

module _ {A : Type 0} where
  -- what holds of each value holds of the one that is found
  pub found-holds : (P : A → Type 0) (c : Name) (rows : List (Name × A)) (x : A) → All (λ row. P row.1) rows → fm.find name_cmp c rows ≡ Some x → P x
  found-holds P c [] x all found = cc
  found-holds P c (e ∷ es) x all found =
      elim (is_eq (name_cmp c e.0)) as (λ b. cond b (Some e.1) (fm.find name_cmp c es) ≡ Some x → P x) [
        | true ↦ λ h. subst P (same_some e.1 x h) (All-head (λ row. P row.1) e es all)
        | false ↦ λ h. found-holds P c es x (All-tail (λ row. P row.1) e es all) h
      ] found

  -- and of each once another value is put, if it holds of that one
  pub put-holds : (P : A → Type 0) (c : Name) (new : A) (rows : List (Name × A)) → P new → All (λ row. P row.1) rows → All (λ row. P row.1) (fm.put name_cmp c new rows)
  put-holds P c new [] here all = All-cons (λ row. P row.1) (c, new) [] here (All-nil (λ row. P row.1))
  put-holds P c new (e ∷ es) here all =
      elim (name_cmp c e.0) as (λ r. All (λ row. P row.1) (by_order r ((c, new) ∷ e ∷ es) ((e.0, new) ∷ es) (e ∷ fm.put name_cmp c new es))) [
        | Less ↦ All-cons (λ row. P row.1) (c, new) (e ∷ es) here all
        | Equal ↦ All-cons (λ row. P row.1) (e.0, new) es here (All-tail (λ row. P row.1) e es all)
        | Greater ↦ All-cons (λ row. P row.1) e (fm.put name_cmp c new es) (All-head (λ row. P row.1) e es all)
            (put-holds P c new es here (All-tail (λ row. P row.1) e es all))
      ]

module _ {A X : Type 0} (value : A → X) where
  -- the entries of the map
  abbrev pub entries_of : List (Name × A) → List (Name × X)
  entries_of rows = map (λ row. (row.0, value row.1)) rows

  find-entries : (c : Name) (rows : List (Name × A)) → fm.find name_cmp c (entries_of rows) ≡ option_map value (fm.find name_cmp c rows)
  find-entries c [] = refl
  find-entries c (e ∷ es) =
      ap (cond (is_eq (name_cmp c e.0)) (Some (value e.1))) (find-entries c es)
      ∙ sym (mapped_choice value (is_eq (name_cmp c e.0)) e.1 (fm.find name_cmp c es))

  put-entries : (c : Name) (new : A) (rows : List (Name × A)) → entries_of (fm.put name_cmp c new rows) ≡ fm.put name_cmp c (value new) (entries_of rows)
  put-entries c new [] = refl
  put-entries c new (e ∷ es) =
      elim (name_cmp c e.0) as (λ r. entries_of (by_order r ((c, new) ∷ e ∷ es) ((e.0, new) ∷ es) (e ∷ fm.put name_cmp c new es))
      ≡ by_order r ((c, value new) ∷ entries_of (e ∷ es)) ((e.0, value new) ∷ entries_of es) ((e.0, value e.1) ∷ fm.put name_cmp c (value new) (entries_of es))) [
        | Less ↦ refl
        | Equal ↦ refl
        | Greater ↦ ap (λ l. (e.0, value e.1) ∷ l) (put-entries c new es)
      ]

  below-entries : (k : Name) (rows : List (Name × A)) → below_all name_cmp k (entries_of rows) ≡ below_all name_cmp k rows
  below-entries k [] = refl
  below-entries k (e ∷ es) = ap (λ b. is_lt (name_cmp k e.0) && b) (below-entries k es)

  sorted-entries : (rows : List (Name × A)) → fm.is_sorted name_cmp (entries_of rows) ≡ fm.is_sorted name_cmp rows
  sorted-entries [] = refl
  sorted-entries (e ∷ es) = λ i. below-entries e.0 es i && sorted-entries es i

  module _ (rows : List (Name × A)) (sorted : T (fm.is_sorted name_cmp rows)) where
    -- the entries of the map are those of the rows
    pub map-entries : fm.entries (map_of value rows) ≡ entries_of rows
    map-entries = fm.entries-from_sorted name_cmp (entries_of rows) (subst T (sym (sorted-entries rows)) sorted)

    -- what the map has under a name is in the row of that name
    pub map-get : (c : Name) → fm.get (map_of value rows) c ≡ option_map value (fm.find name_cmp c rows)
    map-get c = fm.get-entries (map_of value rows) c ∙ ap (fm.find name_cmp c) map-entries ∙ find-entries c rows

    -- there are as many
    pub map-len : fm.len (map_of value rows) ≡ length rows
    map-len = fm.len-entries (map_of value rows) ∙ ap length map-entries ∙ length-map rows (λ row. (row.0, value row.1))

    -- the keys of the map are the names of the rows
    pub map-keys : fm.keys (map_of value rows) ≡ map (λ row. row.0) rows
    map-keys = ap (map (λ (e : Name × X). e.0)) map-entries ∙ names rows
      where
        names : (rows : List (Name × A)) → map (λ (e : Name × X). e.0) (entries_of rows) ≡ map (λ row. row.0) rows
        names [] = refl
        names (e ∷ es) = ap (λ l. e.0 ∷ l) (names es)

    -- the values of the map are those of the rows
    pub map-values : fm.values (map_of value rows) ≡ map (λ row. value row.1) rows
    map-values = ap (map (λ (e : Name × X). e.1)) map-entries ∙ values rows
      where
        values : (rows : List (Name × A)) → map (λ (e : Name × X). e.1) (entries_of rows) ≡ map (λ row. value row.1) rows
        values [] = refl
        values (e ∷ es) = ap (λ l. value e.1 ∷ l) (values es)

-- two names tie whichever stands first
tied_either_way : (a b : Name) → is_eq (name_cmp a b) ≡ is_eq (name_cmp b a)
tied_either_way a b = (eq_by_cmp_equiv orders.names).symm a b

module _ {A : Type 0} where
  -- the row at a place that is found has what is found
  pub found-at : (c : Name) (rows : List (Name × A)) (i : ℕ) (row : Name × A) → position (has_name c) rows ≡ Some i → row ≡ get_or rows i row →
      fm.find name_cmp c rows ≡ Some row.1
  found-at c rows i row found is =
      let place : IsPlace (has_name c) rows i = place_found (has_name c) rows i found in
      at rows i place.first place.within ∙ ap (λ (r : Name × A). Some r.1) (sym is)
    where
      at : (rows : List (Name × A)) (i : ℕ) → position_or_len (has_name c) rows ≡ i → i < length rows → fm.find name_cmp c rows ≡ Some (get_or rows i row).1
      at [] i first within = absurd (omega arith)
      at (e ∷ es) zero first within = ap (λ b. cond b (Some e.1) (fm.find name_cmp c es)) (tied_either_way c e.0 ∙ here (has_name c e) _ first)
      at (e ∷ es) (suc i) first within =
          ap (λ b. cond b (Some e.1) (fm.find name_cmp c es)) (tied_either_way c e.0 ∙ further (has_name c e) _ i first)
          ∙ at es i (further_place (has_name c e) _ i first) (omega arith)

  -- where no place is found nothing is
  pub nothing-at : (c : Name) (rows : List (Name × A)) → position (has_name c) rows ≡ None → fm.find name_cmp c rows ≡ None
  nothing-at c rows e = at rows (ltb-false _ _ (nothing_found (nat_lt (position_or_len (has_name c) rows) (length rows)) (position_or_len (has_name c) rows) e))
    where
      at : (rows : List (Name × A)) → length rows ≤ position_or_len (has_name c) rows → fm.find name_cmp c rows ≡ None
      at [] past = refl
      at (e ∷ es) past =
          ap (λ b. cond b (Some e.1) (fm.find name_cmp c es)) (tied_either_way c e.0)
          ∙ elim (has_name c e) as (λ b. suc (length es) ≤ cond (not b) (1 + position_or_len (has_name c) es) 0 → cond b (Some e.1) (fm.find name_cmp c es) ≡ None) [
            | true ↦ λ h. absurd (omega (arith, h))
            | false ↦ λ h. at es (omega (arith, h))
          ] past

  -- a row of a new name before the first row past it
  pub put-insert : (c : Name) (new : A) (rows : List (Name × A)) (i : ℕ) → position_or_len (is_past c) rows ≡ i → fm.find name_cmp c rows ≡ None →
      insert rows i (c, new) ≡ fm.put name_cmp c new rows
  put-insert c new [] zero place none = refl
  put-insert c new [] (suc i) place none = absurd (omega arith)
  put-insert c new (e ∷ es) zero place none =
      let before : name_cmp c e.0 ≡ Less = less_of (name_cmp c e.0) (here (is_past c e) _ place) in
      ap (λ r. by_order r ((c, new) ∷ e ∷ es) ((e.0, new) ∷ es) (e ∷ fm.put name_cmp c new es)) (sym before)
  put-insert c new (e ∷ es) (suc i) place none =
      let behind : name_cmp c e.0 ≡ Greater =
      greater_of (name_cmp c e.0) (further (is_past c e) _ i place) (not_first (is_eq (name_cmp c e.0)) e.1 (fm.find name_cmp c es) none) in
      ap (λ l. e ∷ l) (put-insert c new es i (further_place (is_past c e) _ i place) (not_later (is_eq (name_cmp c e.0)) e.1 (fm.find name_cmp c es) none))
      ∙ ap (λ r. by_order r ((c, new) ∷ e ∷ es) ((e.0, new) ∷ es) (e ∷ fm.put name_cmp c new es)) (sym behind)

  below-at : (k : Name) (rows : List (Name × A)) (i : ℕ) (d : Name × A) → T (below_all name_cmp k rows) → i < length rows → name_cmp k (get_or rows i d).0 ≡ Less
  below-at k [] i d below within = absurd (omega arith)
  below-at k (e ∷ es) zero d below within = less_of _ (first_true _ _ below)
  below-at k (e ∷ es) (suc i) d below within = below-at k es i d (both_second _ _ below) (omega arith)

  pub name-at : (c : Name) (rows : List (Name × A)) (i : ℕ) (d : Name × A) → position_or_len (has_name c) rows ≡ i → i < length rows → (get_or rows i d).0 ≡ c
  name-at c [] i d first within = absurd (omega arith)
  name-at c (e ∷ es) zero d first within = same_name e.0 c (here (has_name c e) _ first)
  name-at c (e ∷ es) (suc i) d first within = name-at c es i d (further_place (has_name c e) _ i first) (omega arith)

  -- each row is at the place of its name
  pub placed : (rows : List (Name × A)) (i : ℕ) (row : Name × A) → T (fm.is_sorted name_cmp rows) → slice_get rows i ≡ Some row →
      position (has_name row.0) rows ≡ Some i
  placed rows i row sorted is = at_place (has_name row.0) rows i (first rows i sorted is) (slice_get_within rows i row is)
    where
      first : (rows : List (Name × A)) (i : ℕ) → T (fm.is_sorted name_cmp rows) → slice_get rows i ≡ Some row → position_or_len (has_name row.0) rows ≡ i
      first [] i sorted is = cc
      first (e ∷ es) zero sorted is =
          let itself : is_eq (name_cmp e.0 row.0) ≡ true =
          ap (λ (r : Name × A). is_eq (name_cmp e.0 r.0)) (sym (same_some e row is)) ∙ (eq_by_cmp_equiv orders.names).refl e.0 in
          ap (λ b. cond (not b) (1 + position_or_len (has_name row.0) es) 0) itself
      first (e ∷ es) (suc i) sorted is =
          let later : name_cmp e.0 row.0 ≡ Less =
          ap (λ (r : Name × A). name_cmp e.0 r.0) (sym (get_or_from_slice_get es i row row is))
          ∙ below-at e.0 es i row (both_first _ _ sorted) (slice_get_within es i row is) in
          ap (λ r. cond (not (is_eq r)) (1 + position_or_len (has_name row.0) es) 0) later
          ∙ ap (λ n. 1 + n) (first es i (both_second _ _ sorted) is) ∙ omega arith

  -- a name is that of a row exactly where its place is
  pub tied-at : (c : Name) (rows : List (Name × A)) (o : Option ℕ) (i : ℕ) (row : Name × A) → T (fm.is_sorted name_cmp rows) → position (has_name c) rows ≡ o →
      slice_get rows i ≡ Some row → is_eq (name_cmp c row.0) ≡ is_place i o
  tied-at c rows o i row sorted found is =
      elim (is_eq (name_cmp c row.0)) as (λ b. is_eq (name_cmp c row.0) ≡ b → b ≡ is_place i o) [
        | true ↦ λ tied.
            let at_i : Some i ≡ o = sym (placed rows i row sorted is) ∙ ap (λ d. position (has_name d) rows) (sym (same_name c row.0 tied)) ∙ found in
            sym (eq-eqb i i refl) ∙ ap (is_place i) at_i
        | false ↦ λ differ. sym (not_there o found differ)
      ] refl
    where
      not_there : (o : Option ℕ) → position (has_name c) rows ≡ o → is_eq (name_cmp c row.0) ≡ false → is_place i o ≡ false
      not_there None found differ = refl
      not_there (Some j) found differ =
          elim (eqb i j) as (λ b. eqb i j ≡ b → b ≡ false) [
            | true ↦ λ same.
                let place : IsPlace (has_name c) rows j = place_found (has_name c) rows j found in
                let here : row.0 ≡ c =
                ap (λ (r : Name × A). r.0) (sym (get_or_from_slice_get rows i row row is)) ∙ ap (λ k. (get_or rows k row).0) (eqb-same i j same)
                ∙ name-at c rows j row place.first place.within in
                sym ((eq_by_cmp_equiv orders.names).refl c) ∙ ap (λ d. is_eq (name_cmp c d)) (sym here) ∙ differ
            | false ↦ λ differ. refl
          ] refl

  -- another value in the row of a name
  set-put : (c : Name) (new : A) (rows : List (Name × A)) (i : ℕ) (d : Name × A) → T (fm.is_sorted name_cmp rows) → position_or_len (has_name c) rows ≡ i → i < length rows →
      set rows i ((get_or rows i d).0, new) ≡ fm.put name_cmp c new rows
  set-put c new [] i d sorted first within = absurd (omega arith)
  set-put c new (e ∷ es) zero d sorted first within =
      let tied : name_cmp c e.0 ≡ Equal = equal_of (name_cmp c e.0) (tied_either_way c e.0 ∙ here (has_name c e) _ first) in
      ap (λ r. by_order r ((c, new) ∷ e ∷ es) ((e.0, new) ∷ es) (e ∷ fm.put name_cmp c new es)) (sym tied)
  set-put c new (e ∷ es) (suc i) d sorted first within =
      let later : position_or_len (has_name c) es ≡ i = further_place (has_name c e) _ i first in
      let behind : name_cmp c e.0 ≡ Greater =
      orders.names.antisymm c e.0
      ∙ ap ordering_reverse (ap (name_cmp e.0) (sym (name-at c es i d later (omega arith))) ∙ below-at e.0 es i d (both_first _ _ sorted) (omega arith)) in
      ap (λ l. e ∷ l) (set-put c new es i d (both_second _ _ sorted) later (omega arith))
      ∙ ap (λ r. by_order r ((c, new) ∷ e ∷ es) ((e.0, new) ∷ es) (e ∷ fm.put name_cmp c new es)) (sym behind)

  -- the row at a place that is found gets another value
  pub put-at : (c : Name) (new : A) (rows : List (Name × A)) (i : ℕ) (row : Name × A) → T (fm.is_sorted name_cmp rows) → position (has_name c) rows ≡ Some i →
      row ≡ get_or rows i row → set rows i (row.0, new) ≡ fm.put name_cmp c new rows
  put-at c new rows i row sorted found is =
      let place : IsPlace (has_name c) rows i = place_found (has_name c) rows i found in
      ap (λ (r : Name × A). set rows i (r.0, new)) is ∙ set-put c new rows i row sorted place.first place.within

  -- rows stay in order
  pub put-sorted : (c : Name) (new : A) (rows : List (Name × A)) → T (fm.is_sorted name_cmp rows) → T (fm.is_sorted name_cmp (fm.put name_cmp c new rows))
  put-sorted c new rows sorted =
      subst (λ es. T (fm.is_sorted name_cmp es))
      (fm.entries-insert orders.names (fm.from_sorted rows) c new ∙ ap (fm.put name_cmp c new) (fm.entries-from_sorted name_cmp rows sorted))
      (fm.entries_sorted (fm.insert (fm.from_sorted rows) c new))

-- the rows whose names pass a test stay in order
pub kept-sorted : {A : Type 0} (p : Name → Bool) (rows : List (Name × A)) → T (fm.is_sorted name_cmp rows) → T (fm.is_sorted name_cmp (filter (λ row. p row.0) rows))
kept-sorted p rows sorted = is_sorted-where_key name_cmp p rows sorted

-- they are what is kept of the map
pub map-kept : {A X : Type 0} (value : A → X) (p : Name → Bool) (rows : List (Name × A)) → T (fm.is_sorted name_cmp rows) →
    map_of value (filter (λ row. p row.0) rows) ≡ fm.retain_keys (map_of value rows) p
map-kept value p rows sorted =
    fm.same_map orders.names orders.one_name _ _
    (λ c.
    map-get value (filter (λ row. p row.0) rows) (kept-sorted p rows sorted) c
    ∙ ap (option_map value) (find-where_key name_cmp p c (alike p c) rows)
    ∙ mapped_if value (p c) (fm.find name_cmp c rows)
    ∙ ap (λ o. cond (p c) o None) (sym (map-get value rows sorted c))
    ∙ sym (fm.get-retain_keys (map_of value rows) p c (alike p c)))
  where
    mapped_if : {A X : Type 0} (f : A → X) (b : Bool) (o : Option A) → option_map f (cond b o None) ≡ cond b (option_map f o) None
    mapped_if f true o = refl
    mapped_if f false o = refl

-- another value under a name
pub map-put : {A X : Type 0} (value : A → X) (c : Name) (new : A) (rows : List (Name × A)) → T (fm.is_sorted name_cmp rows) →
    map_of value (fm.put name_cmp c new rows) ≡ fm.insert (map_of value rows) c (value new)
map-put value c new rows sorted =
    fm.same_entries_map _ _
    (map-entries value (fm.put name_cmp c new rows) (put-sorted c new rows sorted) ∙ put-entries value c new rows
    ∙ ap (fm.put name_cmp c (value new)) (sym (map-entries value rows sorted)) ∙ sym (fm.entries-insert orders.names (map_of value rows) c (value new)))
