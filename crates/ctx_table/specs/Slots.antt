-- How a table lays contexts out: each in a slot, and the place of each name in an index.
use Rattle.std.specs.Prelude.{◌≡◌, ℕ, ◌<◌, ◌≤◌, Bool, true, false, List, [], ◌∷◌, Option, None, Some, count_by}
use Rattle.std.specs.Prelude.{is_some, length, map, slice_index_or}
use Rattle.std.specs.FinMap as fm
use Rattle.std.specs.Option.{option_map}
use Rattle.lwc_types.specs.declared.name.Name.{Name}
use Rattle.lwc_types.specs.Names.{name_cmp}
use Rattle.lwc_types.specs.declared.limits.TheConstants.{MOST_GROUPS}
use Rattle.ctx_table.specs.Contexts.{Contexts, Kept, first_free}
use Rattle.ctx_table.specs.Places.{Places}
use Rattle.ctx_table.specs.declared.place.Place.{Place}
use Rattle.ctx_table.specs.declared.place.Place.TheVariants.{Free, Held}

module _ {X : Type 0} where
  -- the entries of the slots that have one
  abbrev pub held : List (Option (Name × X)) → List (Name × X)
  held [] = []
  held (None ∷ slots) = held slots
  held (Some entry ∷ slots) = entry ∷ held slots

  -- the map of the entries
  abbrev pub map_of : List (Option (Name × X)) → fm.FinMap name_cmp X
  map_of slots = fm.from_entries (held slots)

  -- the name in a slot
  abbrev pub name_in : Option (Name × X) → Option Name
  name_in = option_map (λ entry. entry.0)

  -- the index has the place of each name that is in one of at most this number of slots, and no other
  pub record IsIndexed (most : ℕ) (slots : List (Option (Name × X))) (index : Places) : Type 0 where
    pub few : length slots ≤ most
    pub room : index.room ≡ length slots
    pub counted : fm.len index.map ≡ count_by is_some slots
    pub within : (name : Name) (p : ℕ) → fm.get index.map name ≡ Some p → p < length slots
    pub there : (name : Name) (p : ℕ) → fm.get index.map name ≡ Some p →
        name_in (slice_index_or slots p None) ≡ Some name
    pub known : (name : Name) (p : ℕ) → name_in (slice_index_or slots p None) ≡ Some name →
        fm.get index.map name ≡ Some p

-- the entry of a place, if it is taken
abbrev pub slot_of : {C : Type 0} → Place C → Option (Name × Kept C)
slot_of Free = None
slot_of (Held name value entry saved) = Some (name, record { value = value; entry = entry; saved = saved })

-- the contexts of places
abbrev pub contexts_of : {C : Type 0} → List (Place C) → Contexts C
contexts_of places = record {
  kept = map_of (map slot_of places);
  places = map name_in (map slot_of places);
}

-- whether a place is free
abbrev pub is_free : {C : Type 0} → Place C → Bool
is_free Free = true
is_free (Held name value entry saved) = false

-- the slot of a name that has nothing else
abbrev pub name_slot : Option Name → Option (Name × Unit {0})
name_slot = option_map (λ name. (name, tt))

-- names at places with their index, and a number of first places that are all taken
pub record IsKept (names : List (Option Name)) (index : Places) (count : ℕ) : Type 0 where
  pub indexed : IsIndexed MOST_GROUPS (map name_slot names) index
  pub taken : count ≤ first_free names
