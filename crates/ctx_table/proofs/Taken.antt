-- A table whose places are indexed.
use Rattle.std.proofs.Common.{◌≡◌, ◌∙◌, ◌↔◌, ℕ, zero, suc, ◌+◌, ◌<◌, ◌≤◌, Bool, true, false, cond, List, [], ◌∷◌, length, map, replicate, get_or, set, Option, Some, None, refl, sym, ap, arith, count_by}
use Rattle.std.specs.Prelude.{is_some, nat_lt, IfSome}
use Rattle.std.specs.FinMap as fm
use Rattle.std.specs.Option.{option_map}
use Rattle.std.proofs.Math.ListN.{get_or-map}
use Rattle.std.specs.List.{position, position_or_len}
use Rattle.std.proofs.lemmas.Bool.{both_ways, ltb-false}
use Rattle.std.proofs.lemmas.List.{get_or_default, length-map, length-replicate, length-set, map-set, set-get_or}
use Rattle.std.proofs.lemmas.List.Sums.{count_by-le-length, sum_by-cons}
use Rattle.ctx_table.specs.Contexts.{Contexts, Kept, first_free}
use Rattle.ctx_table.specs.Lends.{with_value, with_value_at}
use Rattle.ctx_table.specs.Places.{Places}
use Rattle.ctx_table.specs.Slots.{IsIndexed, contexts_of, held, is_free, map_of, name_in, slot_of}
use Rattle.ctx_table.specs.declared.place.Place.{Place}
use Rattle.ctx_table.specs.declared.place.Place.TheVariants.{Free, Held}
use Rattle.ctx_table.proofs.Alike.{same_names}
use Rattle.ctx_table.proofs.Held.{count-set, get-map_of, not_some, update-indexed, update-map_of, weight}
use Rattle.lwc_types.specs.declared.limits.TheConstants.{MOST_CONTEXTS}
use Rattle.lwc_types.specs.declared.name.Name.{Name}
use Rattle.lwc_types.specs.Names.{name_cmp}
use Rattle.lwc_types.proofs.Small.{nothing_found, same_some}

-- the first free place is free
pub first_free-free : (names : List (Option Name)) → first_free names < length names → get_or names (first_free names) None ≡ None
first_free-free [] within = refl
first_free-free (None ∷ names) within = refl
first_free-free (Some n ∷ names) within =
    let next : first_free (Some n ∷ names) ≡ suc (first_free names) = omega arith in
    ap (λ (k : ℕ). get_or (Some n ∷ names) k None) next ∙ first_free-free names (omega arith)

pub nothing_there : {A : Type 0} (x : Option A) → is_some x ≡ false → x ≡ None
nothing_there None none = refl
nothing_there (Some y) none = absurd (both_ways true none refl)

module _ {X : Type 0} where
  pub nameless : (x : Option (Name × X)) → name_in x ≡ None → x ≡ None
  nameless None none = refl
  nameless (Some e) none = cc

  -- the name at a place
  pub name-at : (slots : List (Option (Name × X))) (p : ℕ) → get_or (map name_in slots) p None ≡ name_in (get_or slots p None)
  name-at slots p = get_or-map name_in slots p None

  pub free-at : (slots : List (Option (Name × X))) (names : List (Option Name)) → map name_in slots ≡ names → first_free names < length names →
      get_or slots (first_free names) None ≡ None
  free-at slots names are within =
      nameless _ (sym (name-at slots (first_free names)) ∙ ap (λ (l : List (Option Name)). get_or l (first_free names) None) are ∙ first_free-free names within)

  pub free-within : (slots : List (Option (Name × X))) (names : List (Option Name)) → map name_in slots ≡ names → first_free names < length names → first_free names < length slots
  free-within slots names are within = omega (arith, within, ap (λ (l : List (Option Name)). length l) are, length-map slots name_in)

  module _ {most : ℕ} (slots : List (Option (Name × X))) (index : Places) (is : IsIndexed most slots index) where
    some_in : (p : ℕ) (n : Name) (x : Option (Name × X)) → get_or slots p None ≡ x → name_in x ≡ Some n → is_some (option_map (λ e. e.1) (get_or slots p None)) ≡ true
    some_in p n None at named = absurd (not_some refl named)
    some_in p n (Some e) at named = ap (λ (x : Option (Name × X)). is_some (option_map (λ e. e.1) x)) at

    live_at : (n : Name) (p : Option ℕ) → fm.get index.map n ≡ p → is_some (fm.get (map_of slots) n) ≡ is_some p
    live_at n None at = ap is_some (get-map_of slots index n is None at)
    live_at n (Some p) at = ap is_some (get-map_of slots index n is (Some p) at) ∙ some_in p n (get_or slots p None) refl (is.there n p at)

    -- a name is in the map exactly if it is in the index
    pub live : (n : Name) → fm.contains_key (map_of slots) n ≡ fm.contains_key index.map n
    live n = live_at n (fm.get index.map n) refl

    pub new_name : (n : Name) → fm.contains_key (map_of slots) n ≡ false → fm.get index.map n ≡ None
    new_name n new = nothing_there _ (sym (live n) ∙ new)

    -- the index has few names
    pub few_names : (test : Name → Bool) → count_by test (fm.keys index.map) ≤ most
    few_names test =
        omega (
          arith,
          count_by-le-length test (fm.keys index.map),
          length-map (fm.entries index.map) (λ e. e.0),
          fm.len-entries index.map,
          is.counted,
          count_by-le-length is_some slots,
          is.few,
        )

    -- there is room in the index as long as a place is free
    pub has_room : (p : ℕ) (n : Name) (x : X) → p < length slots → get_or slots p None ≡ None → fm.len index.map < index.room
    has_room p n x within free =
        omega (arith, count-set slots p (Some (n, x)) within, ap weight free, count_by-le-length is_some (set slots p (Some (n, x))), length-set slots p (Some (n, x)), is.counted, is.room)

  pub some_free : (slots : List (Option (Name × X))) → count_by is_some slots < length slots → first_free (map name_in slots) < length slots
  some_free [] few = absurd (omega arith)
  some_free (None ∷ slots) few = omega arith
  some_free (Some e ∷ slots) few = let rest = some_free slots (omega (arith, few, sum_by-cons (weight {X = X}) (Some e) slots)) in omega arith

  -- a change of one place
  pub names-set : (slots : List (Option (Name × X))) (p : ℕ) (x : Option (Name × X)) → map name_in (set slots p x) ≡ set (map name_in slots) p (name_in x)
  names-set slots p x = map-set name_in slots p x

pub found_pos : (b : Bool) (n i : ℕ) → cond b (Some n) None ≡ Some i → n ≡ i
found_pos true n i is = same_some n i is
found_pos false n i is = absurd (not_some refl is)

module _ {C : Type 0} where
  free_len : (places : List (Place C)) → first_free (map name_in (map slot_of places)) ≡ position_or_len is_free places
  free_len [] = refl
  free_len (Free ∷ places) = refl
  free_len (Held n v e s ∷ places) = ap (λ (k : ℕ). 1 + k) (free_len places)

  pub found_free : (places : List (Place C)) (names : List (Option Name)) (p : ℕ) → map name_in (map slot_of places) ≡ names → position is_free places ≡ Some p → p ≡ first_free names
  found_free places names p are found =
      sym (found_pos (nat_lt (position_or_len is_free places) (length places)) (position_or_len is_free places) p found) ∙ sym (free_len places) ∙ ap first_free are

  pub no_free : (places : List (Place C)) (names : List (Option Name)) → map name_in (map slot_of places) ≡ names → position is_free places ≡ None → first_free names < length names → ⊥
  no_free places names are none within =
      let past = ltb-false _ _ (nothing_found (nat_lt (position_or_len is_free places) (length places)) (position_or_len is_free places) none) in
      omega (arith, past, within, free_len places, ap first_free are, ap (λ (l : List (Option Name)). length l) are, length-map (map slot_of places) name_in, length-map places slot_of)

-- the slot of a place with another value
slot-with_value : {C : Type 0} (x : Place C) (n : Name) (kept : Kept C) (w : C) → slot_of x ≡ Some (n, kept) → slot_of (with_value x w) ≡ Some (n, record kept { value = w })
slot-with_value Free n kept w slot = absurd (not_some refl slot)
slot-with_value {C} (Held m v e s) n kept w slot = ap (λ (entry : Name × Kept C). Some (entry.0, record entry.1 { value = w })) (same_some _ _ slot)

same_contexts : {C : Type 0} (a b : fm.FinMap name_cmp (Kept C)) (xs ys : List (Option Name)) → a ≡ b → xs ≡ ys →
    ◌≡◌ {A = Contexts C} (record { kept = a; places = xs }) (record { kept = b; places = ys })
same_contexts a b xs ys maps lists = λ i. record { kept = maps i; places = lists i }

-- a place that has a name is held
pub named_held : {C : Type 0} (x : Place C) (n : Name) → name_in (slot_of x) ≡ Some n → is_free x ≡ false
named_held Free n named = absurd (not_some refl named)
named_held (Held m v e s) n named = refl

pub held_entry : {C : Type 0} (x : Place C) (n : Name) → name_in (slot_of x) ≡ Some n → (kept : Kept C) × (slot_of x ≡ Some (n, kept))
held_entry Free n named = absurd (not_some refl named)
held_entry (Held m v e s) n named = (record { value = v; entry = e; saved = s }, ap (λ (k : Name). Some (k, record { value = v; entry = e; saved = s })) (same_some m n named))

module _ {C : Type 0} (places : List (Place C)) (table : Contexts C) (stands : contexts_of places ≡ table) where
  pub names_are : map name_in (map slot_of places) ≡ table.places
  names_are = ap (λ (t : Contexts C). t.places) stands

  pub slot-at : (p : ℕ) → get_or (map slot_of places) p None ≡ slot_of (get_or places p Free)
  slot-at p = get_or-map slot_of places p Free

  -- the name at a place of the table
  pub place_name : (p : ℕ) → get_or table.places p None ≡ name_in (get_or (map slot_of places) p None)
  place_name p = ap (λ (l : List (Option Name)). get_or l p None) (sym names_are) ∙ name-at (map slot_of places) p

  -- the first free place
  pub free_slot : (p : ℕ) → p ≡ first_free table.places → first_free table.places < length table.places → get_or (map slot_of places) p None ≡ None
  free_slot p first within = ap (λ (k : ℕ). get_or (map slot_of places) k None) first ∙ free-at (map slot_of places) table.places names_are within

  pub free_fits : (p : ℕ) → p ≡ first_free table.places → first_free table.places < length table.places → p < length (map slot_of places)
  free_fits p first within = omega (arith, first, free-within (map slot_of places) table.places names_are within)

  pub fits : (p : ℕ) → p < length (map slot_of places) → p < length table.places
  fits p within = omega (arith, within, ap (λ (l : List (Option Name)). length l) names_are, length-map (map slot_of places) name_in)

  pub many_places : length table.places ≡ length places
  many_places = omega (arith, ap (λ (l : List (Option Name)). length l) names_are, length-map (map slot_of places) name_in, length-map places slot_of)

  pub is_place : (p : ℕ) → p < length table.places → p < length places
  is_place p within = omega (arith, within, ap (λ (l : List (Option Name)). length l) names_are, length-map (map slot_of places) name_in, length-map places slot_of)

  -- the slot of a place that was read
  pub slot-read : (p : ℕ) (x y : Place C) → x ≡ get_or places p x → p < length places → x ≡ y → get_or (map slot_of places) p None ≡ slot_of y
  slot-read p x y is within same = slot-at p ∙ ap slot_of (get_or_default places p Free x within ∙ sym is ∙ same)

  -- the name of a place that was read
  pub name-read : (p : ℕ) (x : Place C) (n : Name) → x ≡ get_or places p x → p < length places → get_or table.places p None ≡ Some n → name_in (slot_of x) ≡ Some n
  name-read p x n is within has = ap name_in (sym (slot-read p x x is within refl)) ∙ sym (place_name p) ∙ has

  module _ {most : ℕ} (index : Places) (is : IsIndexed most (map slot_of places) index) where
    -- the index has the place of a name
    pub index_at : (n : Name) (p : ℕ) → get_or table.places p None ≡ Some n → fm.get index.map n ≡ Some p
    index_at n p has = is.known n p (sym (place_name p) ∙ has)

    pub name_live : (p : ℕ) (found : Option Name) → found ≡ get_or table.places p None → IfSome found (λ n. fm.contains_key table.kept n ≡ true)
    name_live p None at = tt
    name_live p (Some n) at =
        ap (λ (t : Contexts C). fm.contains_key t.kept n) (sym stands) ∙ live (map slot_of places) index is n ∙ ap is_some (index_at n p (sym at))

    -- there are as many names as slots that are taken, so a place is free as long as there are fewer names
    len_kept : fm.len table.kept ≡ count_by is_some (map slot_of places)
    len_kept =
        let same = same_names (map_of (map slot_of places)) index.map (live (map slot_of places) index is) in
        ap (λ (t : Contexts C). fm.len t.kept) (sym stands)
        ∙ omega (
          arith,
          fm.len-entries (map_of (map slot_of places)),
          length-map (fm.entries (map_of (map slot_of places))) (λ e. e.0),
          ap (λ (l : List Name). length l) same,
          length-map (fm.entries index.map) (λ e. e.0),
          fm.len-entries index.map,
          is.counted,
        )

    pub indexed_names : fm.len table.kept ≡ fm.len index.map
    indexed_names = len_kept ∙ sym is.counted

    pub room_free : fm.len table.kept < length table.places → first_free table.places < length table.places
    room_free room =
        let spare = some_free (map slot_of places) (omega (arith, room, len_kept, ap (λ (l : List (Option Name)). length l) names_are, length-map (map slot_of places) name_in)) in
        omega (arith, spare, ap first_free names_are, ap (λ (l : List (Option Name)). length l) names_are, length-map (map slot_of places) name_in)

    -- what the map has under a name is in its slot
    pub kept_at : (n : Name) (p : ℕ) (e : Name × Kept C) → get_or table.places p None ≡ Some n → get_or (map slot_of places) p None ≡ Some e → fm.get table.kept n ≡ Some e.1
    kept_at n p e has slot =
        ap (λ (t : Contexts C). fm.get t.kept n) (sym stands) ∙ get-map_of (map slot_of places) index n is (Some p) (index_at n p has)
        ∙ ap (option_map (λ e. e.1)) slot

  -- the place of a name is the only one that has it
  pub place_exactly : {most : ℕ} (index : Places) → IsIndexed most (map slot_of places) index → (n : Name) (o : Option ℕ) → fm.get index.map n ≡ o →
      IfSome o (λ place. (p : ℕ) → (get_or table.places p None ≡ Some n) ↔ (p ≡ place))
  place_exactly index is n None at = tt
  place_exactly index is n (Some r) at = λ p. (
    (λ has. same_some p r (sym (is.known n p (sym (place_name p) ∙ has)) ∙ at)),
    (λ same. place_name p ∙ is.there n p (at ∙ ap (λ (k : ℕ). Some k) (sym same))),
  )

  -- the places after a change of one
  pub places-set : (p : ℕ) (x : Place C) → map name_in (map slot_of (set places p x)) ≡ set table.places p (name_in (slot_of x))
  places-set p x =
      ap (λ (l : List (Option (Name × Kept C))). map name_in l) (map-set slot_of places p x) ∙ names-set (map slot_of places) p (slot_of x)
      ∙ ap (λ (l : List (Option Name)). set l p (name_in (slot_of x))) names_are

-- places that are all free
pub none_at : (X : Type 0) (n p : ℕ) → get_or {A = Option (Name × X)} (replicate n None) p None ≡ None
none_at X zero p = refl
none_at X (suc n) zero = refl
none_at X (suc n) (suc p) = none_at X n p

pub none_count : (X : Type 0) (n : ℕ) → count_by {X = Option (Name × X)} is_some (replicate n None) ≡ 0
none_count X zero = refl
none_count X (suc n) = omega (arith, sum_by-cons (weight {X = X}) None (replicate n None), none_count X n)

none_held : (X : Type 0) (n : ℕ) → held {X = X} (replicate n None) ≡ []
none_held X zero = refl
none_held X (suc n) = none_held X n

none_names : (X : Type 0) (n : ℕ) → map (name_in {X = X}) (replicate n None) ≡ replicate n None
none_names X zero = refl
none_names X (suc n) = ap (λ (l : List (Option Name)). None ∷ l) (none_names X n)

free_slots : {C : Type 0} (n : ℕ) → map (slot_of {C = C}) (replicate n Free) ≡ replicate n None
free_slots zero = refl
free_slots {C} (suc n) = ap (λ (l : List (Option (Name × Kept C))). None ∷ l) (free_slots n)

module _ {C : Type 0} (places : List (Place C)) (n m : ℕ) (free : places ≡ replicate n Free) (counted : n ≡ m) where
  all_none : map slot_of places ≡ replicate m None
  all_none = ap (λ (l : List (Place C)). map slot_of l) free ∙ free_slots n ∙ ap (λ (k : ℕ). replicate k None) counted

  pub empty-indexed : (index : Places) → index ≡ record { map = fm.empty; room = m } → m ≤ MOST_CONTEXTS → IsIndexed MOST_CONTEXTS (map slot_of places) index
  empty-indexed index empty few = rw (all_none, empty) (record {
    few = omega (arith, length-replicate {A = Option (Name × Kept C)} m None, few);
    room = sym (length-replicate {A = Option (Name × Kept C)} m None);
    counted = fm.len-empty name_cmp ℕ ∙ sym (none_count (Kept C) m);
    within = λ name p at. absurd (not_some (fm.get-empty name_cmp name) at);
    there = λ name p at. absurd (not_some (fm.get-empty name_cmp name) at);
    known = λ name p has. absurd (not_some (ap name_in (none_at (Kept C) m p)) has);
  })

  pub empty-kept : map_of (map slot_of places) ≡ fm.empty
  empty-kept = ap map_of all_none ∙ ap (λ (l : List (Name × Kept C)). fm.from_entries l) (none_held (Kept C) m)

  pub empty-places : map name_in (map slot_of places) ≡ replicate m None
  empty-places = ap (λ (l : List (Option (Name × Kept C))). map name_in l) all_none ∙ none_names (Kept C) m

-- another value for a name, at its place
module _ {C : Type 0} (places : List (Place C)) (table : Contexts C) (stands : contexts_of places ≡ table) (index : Places)
    {most : ℕ} (is : IsIndexed most (map slot_of places) index) (n : Name) (p : ℕ) (x : Place C) (read : x ≡ get_or places p x) (within : p < length table.places)
    (has : get_or table.places p None ≡ Some n) (kept : Kept C) (slot : slot_of x ≡ Some (n, kept)) where
  pub kept_read : fm.get table.kept n ≡ Some kept
  kept_read = kept_at places table stands index is n p (n, kept) has (slot-read places table stands p x x read (is_place places table stands p within) refl ∙ slot)

  slots_set : (w : C) → map slot_of (set places p (with_value x w)) ≡ set (map slot_of places) p (Some (n, record kept { value = w }))
  slots_set w = map-set slot_of places p (with_value x w) ∙ ap (λ (s : Option (Name × Kept C)). set (map slot_of places) p s) (slot-with_value x n kept w slot)

  pub value-indexed : (w : C) → IsIndexed most (map slot_of (set places p (with_value x w))) index
  value-indexed w = rw (slots_set w) (update-indexed (map slot_of places) index is n p (index_at places table stands index is n p has) (record kept { value = w }))

  pub value-set : (w : C) → contexts_of (set places p (with_value x w)) ≡ with_value_at table n (fm.get table.kept n) w
  value-set w =
      same_contexts _ _ _ _
      (ap map_of (slots_set w) ∙ update-map_of (map slot_of places) index is n p (index_at places table stands index is n p has) (record kept { value = w })
      ∙ ap (λ (t : Contexts C). fm.insert t.kept n (record kept { value = w })) stands)
      (places-set places table stands p (with_value x w) ∙ ap (λ (s : Option Name). set table.places p s) (ap name_in (slot-with_value x n kept w slot) ∙ sym has)
      ∙ set-get_or table.places p None)
      ∙ sym (ap (λ (found : Option (Kept C)). with_value_at table n found w) kept_read)
