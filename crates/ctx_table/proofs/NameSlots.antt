-- The slots of names that have nothing else.
use Rattle.std.proofs.Common.{◌≡◌, ◌∙◌, ℕ, zero, suc, ◌+◌, ◌<◌, ◌≤◌, List, [], ◌∷◌, length, map, replicate, get_or, set, Option, Some, None, drop, refl, sym, ap, subst, arith}
use Rattle.std.specs.Prelude.{IfSome, is_none, nat_lt, true}
use Rattle.std.specs.List.{position, position_or_len}
use Rattle.std.proofs.lemmas.Bool.{ltb-false}
use Rattle.std.specs.Option.{option_eq}
use Rattle.std.proofs.lemmas.Bool.Decides.{nat_tests}
use Rattle.std.specs.FinMap as fm
use Rattle.std.proofs.Math.ListN.{get_or-map}
use Rattle.std.proofs.lemmas.List.{length-drop, length-map, length-replicate, map-set}
use Rattle.ctx_table.specs.Contexts.{first_free}
use Rattle.ctx_table.specs.NameTables.{ArePlaced, NameTable}
use Rattle.ctx_table.specs.Places.{Places}
use Rattle.ctx_table.specs.Slots.{IsIndexed, name_in, name_slot}
use Rattle.ctx_table.proofs.Held.{insert-indexed, not_some, remove-indexed}
use Rattle.ctx_table.proofs.Taken.{first_free-free, found_pos, none_at, none_count, some_free}
use Rattle.lwc_types.specs.contracts.name.NamePartialEq.TheImpl.{eq-value}
use Rattle.lwc_types.specs.declared.name.Name.{Name}
use Rattle.lwc_types.specs.Names.{name_cmp}
use Rattle.lwc_types.proofs.Small.{nothing_found}

name-name_slot : (x : Option Name) → name_in (name_slot x) ≡ x
name-name_slot None = refl
name-name_slot (Some n) = refl

names-slots : (names : List (Option Name)) → map name_in (map name_slot names) ≡ names
names-slots [] = refl
names-slots (x ∷ names) = ap (λ (n : Option Name). n ∷ map name_in (map name_slot names)) (name-name_slot x) ∙ ap (λ (l : List (Option Name)). x ∷ l) (names-slots names)

-- the name in a slot
pub name_there : (names : List (Option Name)) (p : ℕ) → name_in (get_or (map name_slot names) p None) ≡ get_or names p None
name_there names p = ap name_in (get_or-map name_slot names p None) ∙ name-name_slot (get_or names p None)

same_name : (x : Option Name) (n : Name) → option_eq eq-value.it x (Some n) ≡ true → x ≡ Some n
same_name None n same = cc
same_name (Some m) n same = grind (arith, nat_tests)

-- the first free place is within the places, and has an empty slot
module _ (names : List (Option Name)) (index : Places) {most : ℕ} (is : IsIndexed most (map name_slot names) index) where
  pub free_within : fm.len index.map < length names → first_free names < length names
  free_within room =
      omega (
        arith,
        some_free (map name_slot names) (omega (arith, room, is.counted, length-map names name_slot)),
        ap first_free (names-slots names),
        length-map names name_slot,
      )

  pub placed : ArePlaced (record { map = index.map; places = names })
  placed = record {
    at = λ n p. ((λ at. sym (name_there names p) ∙ is.there n p at), (λ has. is.known n p (name_there names p ∙ has)));
    within = λ n p at. omega (arith, is.within n p at, length-map names name_slot);
  }

  -- a place where the name was read is the one that the index tells
  pub read_there : (n : Name) (p : ℕ) (x : Option Name) → x ≡ get_or names p None → option_eq eq-value.it x (Some n) ≡ true → Some p ≡ fm.get index.map n
  read_there n p x read same = sym (is.known n p (name_there names p ∙ sym read ∙ same_name x n same))

  pub told_within : (n : Name) (x : Option ℕ) → x ≡ fm.get index.map n → IfSome x (λ p. p < length names)
  told_within n None told = tt
  told_within n (Some p) told = omega (arith, is.within n p (sym told), length-map names name_slot)

-- an index of the names after one is put or taken
module _ (names : List (Option Name)) (index after : Places) {most : ℕ} (is : IsIndexed most (map name_slot names) index) (n : Name) (p : ℕ) where
  pub indexed-insert : after ≡ record { map = fm.insert index.map n p; room = index.room } → fm.get index.map n ≡ None → p < length (map name_slot names) →
      get_or (map name_slot names) p None ≡ None → IsIndexed most (map name_slot (set names p (Some n))) after
  indexed-insert put new within free = rw (map-set name_slot names p (Some n), put) (insert-indexed _ _ is n p new within free tt)

  pub indexed-remove : after ≡ record { map = fm.remove index.map n; room = index.room } → fm.get index.map n ≡ Some p →
      IsIndexed most (map name_slot (set names p None)) after
  indexed-remove taken at = rw (map-set name_slot names p None, taken) (remove-indexed _ _ is n p at)

pub free_slot : (names : List (Option Name)) → first_free names < length names → get_or (map name_slot names) (first_free names) None ≡ None
free_slot names within = get_or-map name_slot names (first_free names) None ∙ ap name_slot (first_free-free names within)

free_len : (names : List (Option Name)) → first_free names ≡ position_or_len is_none names
free_len [] = refl
free_len (None ∷ names) = refl
free_len (Some n ∷ names) = ap (λ (k : ℕ). 1 + k) (free_len names)

-- a first place without a name that was found, and none
pub found_place : (names : List (Option Name)) (p : ℕ) → position is_none names ≡ Some p → p ≡ first_free names
found_place names p found = sym (found_pos (nat_lt (position_or_len is_none names) (length names)) (position_or_len is_none names) p found) ∙ sym (free_len names)

pub no_place : (names : List (Option Name)) → position is_none names ≡ None → first_free names < length names → ⊥
no_place names none within =
    let past = ltb-false _ _ (nothing_found (nat_lt (position_or_len is_none names) (length names)) (position_or_len is_none names) none) in
    omega (arith, past, within, free_len names)

-- as long as no place is free before one, the first free place is the first from there on
further : (names : List (Option Name)) (t : ℕ) → t ≤ first_free names → first_free names ≡ t + first_free (drop t names)
further names zero taken = omega arith
further [] (suc t) taken = absurd (omega (arith, taken))
further (None ∷ names) (suc t) taken = absurd (omega (arith, taken))
further (Some n ∷ names) (suc t) taken =
    let next : first_free (Some n ∷ names) ≡ suc (first_free names) = omega arith in
    omega (arith, next, further names t (omega (arith, next, taken)))

pub found_further : (names : List (Option Name)) (t p : ℕ) → t ≤ first_free names → position is_none (drop t names) ≡ Some p → t + p ≡ first_free names
found_further names t p taken found = omega (arith, further names t taken, found_place (drop t names) p found)

pub none_further : (names : List (Option Name)) (t : ℕ) → t ≤ first_free names → position is_none (drop t names) ≡ None → first_free names < length names → ⊥
none_further names t taken none within = no_place (drop t names) none (omega (arith, further names t taken, within, length-drop t names))

-- no place is free up to the one that was taken last
taken_more : (names : List (Option Name)) (n : Name) → first_free names < length names → first_free names + 1 ≤ first_free (set names (first_free names) (Some n))
taken_more [] n within = absurd (omega (arith, within))
taken_more (None ∷ names) n within = omega arith
taken_more (Some m ∷ names) n within =
    let next : first_free (Some m ∷ names) ≡ suc (first_free names) = omega arith in
    let rest = taken_more names n (omega (arith, next, within)) in
    subst (λ (k : ℕ). k + 1 ≤ first_free (set (Some m ∷ names) k (Some n))) (sym next) (omega (arith, rest))

pub taken_to : (names : List (Option Name)) (n : Name) (p : ℕ) → p ≡ first_free names → first_free names < length names → p + 1 ≤ first_free (set names p (Some n))
taken_to names n p first within = rw first (taken_more names n within)

-- nor before the one that was freed
pub taken_less : (names : List (Option Name)) (t p : ℕ) → t ≤ first_free names → t ≤ p → t ≤ first_free (set names p None)
taken_less [] t p taken below = taken
taken_less (x ∷ names) t zero taken below = omega (arith, below)
taken_less (None ∷ names) t (suc p) taken below = omega (arith, taken)
taken_less (Some n ∷ names) zero (suc p) taken below = omega arith
taken_less (Some n ∷ names) (suc t) (suc p) taken below =
    omega (arith, taken_less names t p (omega (arith, taken)) (omega (arith, below)))

-- a table of these names
module _ (names : List (Option Name)) (index : Places) (table : NameTable) (stands : ◌≡◌ {A = NameTable} (record { map = index.map; places = names }) table) where
  same_length : length names ≡ length table.places
  same_length = ap (λ (t : NameTable). length t.places) stands

  pub place_inside : (p : ℕ) → p ≡ first_free table.places → first_free table.places < length table.places → p < length names
  place_inside p is within = omega (arith, is, within, same_length)

  pub slot_inside : (p : ℕ) → p ≡ first_free table.places → first_free table.places < length table.places → p < length (map name_slot names)
  slot_inside p is within = omega (arith, is, within, same_length, length-map names name_slot)

  pub slot_free : (p : ℕ) → p ≡ first_free table.places → first_free table.places < length table.places → get_or (map name_slot names) p None ≡ None
  slot_free p is within =
      ap (λ (k : ℕ). get_or (map name_slot names) k None) (is ∙ ap (λ (t : NameTable). first_free t.places) (sym stands))
      ∙ free_slot names (omega (arith, within, same_length, ap (λ (t : NameTable). first_free t.places) stands))

-- slots of places without names
none_slots : (n : ℕ) → map name_slot (replicate n None) ≡ replicate n None
none_slots zero = refl
none_slots (suc n) = ap (λ (l : List (Option (Name × Unit {0}))). None ∷ l) (none_slots n)

pub none-indexed : (names : List (Option Name)) (index : Places) (n most : ℕ) → names ≡ replicate n None → index ≡ record { map = fm.empty; room = n } → n ≤ most → IsIndexed most (map name_slot names) index
none-indexed names index n most none empty few = rw (none, none_slots, empty) (record {
  few = omega (arith, length-replicate {A = Option (Name × Unit {0})} n None, few);
  room = sym (length-replicate {A = Option (Name × Unit {0})} n None);
  counted = fm.len-empty name_cmp ℕ ∙ sym (none_count (Unit {0}) n);
  within = λ name p at. absurd (not_some (fm.get-empty name_cmp name) at);
  there = λ name p at. absurd (not_some (fm.get-empty name_cmp name) at);
  known = λ name p has. absurd (not_some (ap name_in (none_at (Unit {0}) n p)) has);
})
