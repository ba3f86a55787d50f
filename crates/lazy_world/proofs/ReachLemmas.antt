-- The places that a search marks are those of the contexts that are reached.
use Rattle.std.proofs.Common.{◌≡◌, inl, inr, ◌↔◌, ℕ, ◌<◌, arith, List, [], ◌∷◌, refl, sym, ap, subst, ◌∙◌, Bool, true, Option, Some, None, get_or}
use Rattle.std.specs.Prelude.{All, is_some}
use Rattle.std.specs.List.{Contains, cons_option, filter_map}
use Rattle.std.specs.Ordering.{eq_by_cmp, is_eq}
use Rattle.std.specs.FinMap as fm
use Rattle.std.proofs.lemmas.Bool.{false≢true}
use Rattle.std.proofs.lemmas.List.Elements.{All-cons, All-nil}
use Rattle.lwc_base.specs.declared.descriptor.Descriptor.{Descriptor}
use Rattle.lwc_base.specs.declared.descriptor.Descriptor.TheVariants.{Empty, Console, File, Request, Reply, Ctx}
use Rattle.lwc_base.specs.Cells.{slot_at}
use Rattle.lwc_base.specs.Life as life
use Rattle.lwc_base.specs.Life.{is_among, is_of, is_reached}
use Rattle.lwc_base.specs.World.{is_live}
use Rattle.lwc_types.specs.declared.key.TheConstants.{SLOTS}
use Rattle.lwc_types.specs.declared.limits.TheConstants.{MOST_CONTEXTS}
use Rattle.lwc_types.specs.declared.name.Name.{Name}
use Rattle.lwc_types.specs.Names.{name_cmp}
use Rattle.ctx_table.specs.NameTables.{ArePlaced}
use Rattle.reach.specs.Reach as reach
use Rattle.reach.specs.Reach.{is_marked}
use Rattle.lazy_world.specs.declared.world.PlacedWorld.{PlacedWorld}
use Rattle.lazy_world.specs.Reaping.{link_from, link_of, place_in}
use Rattle.lazy_world.specs.Worlds.{parts, seen}
use Rattle.lazy_world.proofs.WorldLemmas.{live-there}
use Rattle.lwc_base.proofs.Life.{or_cases, or_left, or_right, reached_by_way, way_of_reached}
use Rattle.lwc_base.proofs.Slots.{linked_slot, slot_links}
use Rattle.lwc_types.proofs.Orders.{name-itself, same_name}
use Rattle.lwc_types.proofs.Small.{gathered_either, gathered_later, same_bool, same_some}

module _ (w : PlacedWorld) (placed : ArePlaced w.contexts) where
  abbrev places_by_name : fm.FinMap name_cmp ℕ
  places_by_name = w.contexts.map

  abbrev names : List (Option Name)
  names = w.contexts.places

  -- a name that has a place is live
  pub live-named : (i : ℕ) (c : Name) → get_or names i None ≡ Some c → is_live (seen w) c ≡ true
  unfolding seen parts
  live-named i c is = live-there (parts w) c ∙ ap is_some ((placed.at c i).1 is)

  -- and each live name has a place
  has_place : (c : Name) → is_live (seen w) c ≡ true → (i : ℕ) × (fm.get places_by_name c ≡ Some i)
  unfolding seen parts
  has_place c live = from (fm.get places_by_name c) refl (sym (live-there (parts w) c) ∙ live)
    where
      from : (o : Option ℕ) → fm.get places_by_name c ≡ o → is_some (fm.get places_by_name c) ≡ true → (i : ℕ) × (fm.get places_by_name c ≡ Some i)
      from None missed there = absurd (false≢true (sym (ap is_some missed) ∙ there))
      from (Some i) found there = (i, found)

  -- the place of the context that a descriptor is of
  place_of_it : (c : Name) (value : Descriptor) → is_of c value ≡ true → place_in places_by_name value ≡ fm.get places_by_name c
  place_of_it c Empty is = cc
  place_of_it c Console is = cc
  place_of_it c (File file at) is = cc
  place_of_it c (Request r at) is = cc
  place_of_it c (Reply r) is = cc
  place_of_it c (Ctx name cap) is = ap (fm.get places_by_name) (same_name name c is)

  it_of_place : (c : Name) (value : Descriptor) (i : ℕ) → place_in places_by_name value ≡ Some i → get_or names i None ≡ Some c → is_of c value ≡ true
  it_of_place c Empty i at named = cc
  it_of_place c Console i at named = cc
  it_of_place c (File file pos) i at named = cc
  it_of_place c (Request r pos) i at named = cc
  it_of_place c (Reply r) i at named = cc
  it_of_place c (Ctx name cap) i at named =
      let same : name ≡ c = same_some name c (sym ((placed.at name i).0 at) ∙ named) in
      ap (λ d. is_eq (name_cmp name d)) (sym same) ∙ name-itself name

  module _ (roots : List Name) where
    abbrev places : List Name → List ℕ
    places among = filter_map (fm.get places_by_name) among

    -- each place is within
    pub places_within : ((c : Name) (i : ℕ) → fm.get places_by_name c ≡ Some i → i < MOST_CONTEXTS) → (among : List Name) → All (λ place. place < MOST_CONTEXTS) (places among)
    places_within low [] = All-nil (λ place. place < MOST_CONTEXTS)
    places_within low (r ∷ rs) = first (fm.get places_by_name r) refl (places_within low rs)
      where
        first : (o : Option ℕ) → fm.get places_by_name r ≡ o → All (λ place. place < MOST_CONTEXTS) (places rs) → All (λ place. place < MOST_CONTEXTS) (cons_option o (places rs))
        first None missed rest = rest
        first (Some i) found rest = All-cons (λ place. place < MOST_CONTEXTS) i (places rs) (low r i found) rest

    root_at : (among : List Name) (i : ℕ) (c : Name) → get_or names i None ≡ Some c → Contains (places among) i → is_among among c ≡ true
    root_at [] i c named there = absurd (omega (arith, there.1))
    root_at (r ∷ rs) i c named there =
        elim (gathered_either (fm.get places_by_name r) (places rs) i there) [
          | inl here ↦
              let same : c ≡ r = same_some c r (sym named ∙ (placed.at r i).0 here) in
              or_left _ _ (ap (eq_by_cmp name_cmp c) (sym same) ∙ name-itself c)
          | inr later ↦ or_right _ _ (root_at rs i c named later)
        ]

    at_root : (among : List Name) (i : ℕ) (c : Name) → fm.get places_by_name c ≡ Some i → is_among among c ≡ true → Contains (places among) i
    at_root [] i c at there = cc
    at_root (r ∷ rs) i c at there =
        elim (or_cases (eq_by_cmp name_cmp c r) (is_among rs c) there) [
          | inl here ↦
              let o : Some i ≡ fm.get places_by_name r = sym at ∙ ap (fm.get places_by_name) (same_name c r here) in
              subst (λ o. Contains (cons_option o (places rs)) i) o (0, omega arith, refl)
          | inr later ↦ gathered_later (fm.get places_by_name r) (places rs) i (at_root rs i c at later)
        ]

    -- a link from a place is one from the name there
    link_by_name : (place slot next : ℕ) (c : Name) (o : Option Name) → get_or names next None ≡ Some c → slot < SLOTS → get_or names place None ≡ o → link_from w slot o ≡ Some next →
        ((d : Name) → get_or names place None ≡ Some d → life.Reaches (seen w) roots d) → life.Reaches (seen w) roots c
    link_by_name place slot next c None named within none link from = cc
    link_by_name place slot next c (Some d) named within there link from =
        life.Link d c (from d there) (live-named place d there)
        (slot_links (seen w) d c slot within (it_of_place c (slot_at (seen w) d slot) next link named))

    -- what is reached by places is reached by names
    by_name : (i : ℕ) (c : Name) → get_or names i None ≡ Some c → reach.Reaches (link_of w) (places roots) i → life.Reaches (seen w) roots c
    unfolding link_of
    by_name _ c named (reach.Root place there) = life.Root c (root_at roots place c named there)
    by_name _ c named (reach.Link place slot next reached within is) =
        link_by_name place slot next c (get_or names place None) named within refl is (λ d there. by_name place d there reached)

    -- and the other way round
    by_place : (c : Name) → life.Reaches (seen w) roots c → (i : ℕ) → fm.get places_by_name c ≡ Some i → reach.Reaches (link_of w) (places roots) i
    unfolding link_of
    by_place _ (life.Root c there) i at = reach.Root i (at_root roots i c at there)
    by_place _ (life.Link d c reached live linked) i at =
        let place = has_place d live in
        let slot = linked_slot (seen w) d c linked in
        reach.Link place.0 slot.0 i (by_place d reached place.0 place.1) slot.1
        (ap (link_from w slot.0) ((placed.at d place.0).0 place.1)
        ∙ place_of_it c (slot_at (seen w) d slot.0) slot.2 ∙ at)

    -- so the marks of a search are those of the contexts that are reached
    pub marked-reached : (searched : List ℕ) (marks : List Bool) → searched ≡ places roots →
        ((place : ℕ) → place < MOST_CONTEXTS → (is_marked marks place ≡ true) ↔ reach.Reaches (link_of w) searched place) →
        (c : Name) (i : ℕ) → fm.get places_by_name c ≡ Some i → i < MOST_CONTEXTS → is_marked marks i ≡ is_reached (seen w) roots c
    marked-reached searched marks from found c i at within =
        let named : get_or names i None ≡ Some c = (placed.at c i).0 at in
        let by : (is_marked marks i ≡ true) ↔ reach.Reaches (link_of w) (places roots) i =
        subst (λ (starts : List ℕ). (is_marked marks i ≡ true) ↔ reach.Reaches (link_of w) starts i) from (found i within) in
        same_bool (is_marked marks i) (is_reached (seen w) roots c)
        (λ marked. reached_by_way (seen w) roots c (by_name i c named (by.0 marked)) (live-named i c named))
        (λ reached. by.1 (by_place c (way_of_reached (seen w) roots c reached) i at))
