-- The places that a search marks are those of the contexts that are reached.
use Rattle.std.proofs.Common.{◌≡◌, inl, inr, ◌↔◌, ℕ, ◌<◌, arith, List, [], ◌∷◌, length, refl, sym, ap, subst, ◌∙◌, Bool, true, Option, Some, None, map}
use Rattle.std.specs.Prelude.{All, slice_get}
use Rattle.std.specs.List.{Contains, cons_option, filter, filter_map, items_where_true, position}
use Rattle.std.specs.Option.{option_map}
use Rattle.std.specs.Ordering.{eq_by_cmp, is_eq}
use Rattle.std.proofs.lemmas.Bool.{false≢true}
use Rattle.std.proofs.lemmas.List.Elements.{All-cons, All-nil}
use Rattle.std.proofs.lemmas.Option.{get_or_from_slice_get, slice_get-map, slice_get_cases, slice_get_within}
use Rattle.lwc_base.specs.declared.descriptor.Descriptor.{Descriptor}
use Rattle.lwc_base.specs.declared.descriptor.Descriptor.TheVariants.{Empty, Console, File, Request, Reply, Ctx}
use Rattle.lwc_base.specs.Cells.{slot_at}
use Rattle.lwc_base.specs.Life as life
use Rattle.lwc_base.specs.Life.{is_among, is_of, is_reached}
use Rattle.lwc_base.specs.World.{is_live}
use Rattle.lwc_types.specs.declared.key.TheConstants.{SLOTS}
use Rattle.lwc_types.specs.declared.limits.TheConstants.{MOST_CONTEXTS}
use Rattle.lwc_types.specs.declared.name.Name.{Name}
use Rattle.lwc_types.specs.Names.{name_cmp}
use Rattle.reach.specs.Reach as reach
use Rattle.reach.specs.Reach.{is_marked}
use Rattle.whole_world.specs.declared.context_row.ContextRow.{ContextRow}
use Rattle.whole_world.specs.declared.world.WholeWorld.{WholeWorld}
use Rattle.whole_world.specs.Reaping.{link_from, link_of, place_in}
use Rattle.whole_world.specs.Tables.{has_name}
use Rattle.whole_world.specs.Worlds.{seen}
use Rattle.whole_world.proofs.Marking.{kept_rows}
use Rattle.whole_world.proofs.Tables.{IsPlace, found-at, name-at, nothing-at, place_found, placed}
use Rattle.whole_world.proofs.Worlds.{dead-missed, live-found}
use Rattle.lwc_base.proofs.Life.{or_cases, or_left, or_right, reached_by_way, way_of_reached}
use Rattle.lwc_base.proofs.Slots.{linked_slot, slot_links}
use Rattle.lwc_types.proofs.Orders.{name-itself, same_name}
use Rattle.lwc_types.proofs.Small.{gathered_either, gathered_later, same_bool, same_some}

module _ (w : WholeWorld) where
  abbrev rows : List (Name × ContextRow)
  rows = w.contexts.rows.items

  abbrev names : List Name
  names = map (λ row. row.0) rows

  name_of_row : (i : ℕ) (row : Name × ContextRow) → slice_get rows i ≡ Some row → slice_get names i ≡ Some row.0
  name_of_row i row is = slice_get-map (λ (r : Name × ContextRow). r.0) rows i ∙ ap (option_map (λ (r : Name × ContextRow). r.0)) is

  -- a name at a place is that of a row
  row_of_name : (i : ℕ) (c : Name) → slice_get names i ≡ Some c → (row : Name × ContextRow) × (slice_get rows i ≡ Some row) × (row.0 ≡ c)
  row_of_name i c is =
      elim (slice_get_cases rows i).1 [
        | inl found ↦ (found.0, found.2, same_some found.0.0 c (sym (name_of_row i found.0 found.2) ∙ is))
        | inr past ↦ absurd (no_name (sym (ap (option_map (λ (r : Name × ContextRow). r.0)) past.1) ∙ sym (slice_get-map (λ (r : Name × ContextRow). r.0) rows i) ∙ is))
      ]
    where
      no_name : None ≡ Some c → ⊥
      no_name e = cc

  place_of_name : (i : ℕ) (c : Name) → slice_get names i ≡ Some c → position (has_name c) rows ≡ Some i
  place_of_name i c is =
      let row = row_of_name i c is in
      subst (λ (d : Name). position (has_name d) rows ≡ Some i) row.2 (placed rows i row.0 w.sound.contexts_sorted row.1)

  name_of_place : (i : ℕ) (c : Name) → position (has_name c) rows ≡ Some i → slice_get names i ≡ Some c
  name_of_place i c found =
      let place : IsPlace (has_name c) rows i = place_found (has_name c) rows i found in
      elim (slice_get_cases rows i).1 [
        | inl row ↦ name_of_row i row.0 row.2 ∙ ap Some (ap (λ (r : Name × ContextRow). r.0) (sym row.3) ∙ name-at c rows i row.0 place.first place.within)
        | inr past ↦ absurd (omega (arith, place.within, past.0))
      ]

  -- it is live
  pub live-named : (i : ℕ) (c : Name) → slice_get names i ≡ Some c → is_live (seen w) c ≡ true
  unfolding seen
  live-named i c is =
      let row = row_of_name i c is in
      live-found _ _ _ _ w.sound c row.0.1 (found-at c rows i row.0 (place_of_name i c is) (sym (get_or_from_slice_get rows i row.0 row.0 row.1)))

  -- and each live name has a place
  has_place : (c : Name) → is_live (seen w) c ≡ true → (i : ℕ) × (position (has_name c) rows ≡ Some i)
  unfolding seen
  has_place c live = from (position (has_name c) rows) refl
    where
      from : (o : Option ℕ) → position (has_name c) rows ≡ o → (i : ℕ) × (position (has_name c) rows ≡ Some i)
      from None missed = absurd (false≢true (sym (dead-missed _ _ _ _ w.sound c (nothing-at c rows missed)) ∙ live))
      from (Some i) found = (i, found)

  -- the place of the context that a descriptor is of
  place_of_it : (c : Name) (value : Descriptor) → is_of c value ≡ true → place_in rows value ≡ position (has_name c) rows
  place_of_it c Empty is = cc
  place_of_it c Console is = cc
  place_of_it c (File file at) is = cc
  place_of_it c (Request r at) is = cc
  place_of_it c (Reply r) is = cc
  place_of_it c (Ctx name cap) is = ap (λ d. position (has_name d) rows) (same_name name c is)

  it_of_place : (c : Name) (value : Descriptor) (i : ℕ) → place_in rows value ≡ Some i → slice_get names i ≡ Some c → is_of c value ≡ true
  it_of_place c Empty i at named = cc
  it_of_place c Console i at named = cc
  it_of_place c (File file pos) i at named = cc
  it_of_place c (Request r pos) i at named = cc
  it_of_place c (Reply r) i at named = cc
  it_of_place c (Ctx name cap) i at named =
      let same : name ≡ c = same_some name c (sym (name_of_place i name at) ∙ named) in
      ap (λ d. is_eq (name_cmp name d)) (sym same) ∙ name-itself name

  module _ (roots : List Name) where
    abbrev places : List Name → List ℕ
    places names = filter_map (λ c. position (has_name c) rows) names

    -- there are no more places than rows
    pub places_within : (among : List Name) → All (λ place. place < MOST_CONTEXTS) (places among)
    places_within [] = All-nil (λ place. place < MOST_CONTEXTS)
    places_within (r ∷ rs) = first (position (has_name r) rows) refl (places_within rs)
      where
        first : (o : Option ℕ) → position (has_name r) rows ≡ o → All (λ place. place < MOST_CONTEXTS) (places rs) → All (λ place. place < MOST_CONTEXTS) (cons_option o (places rs))
        first None missed rest = rest
        first (Some i) found rest =
            All-cons (λ place. place < MOST_CONTEXTS) i (places rs)
            (omega (arith, (place_found (has_name r) rows i found).within, w.sound.few_contexts, w.sound.size_contexts)) rest

    root_at : (among : List Name) (i : ℕ) (c : Name) → slice_get names i ≡ Some c → Contains (places among) i → is_among among c ≡ true
    root_at [] i c named there = absurd (omega (arith, there.1))
    root_at (r ∷ rs) i c named there =
        elim (gathered_either (position (has_name r) rows) (places rs) i there) [
          | inl here ↦
              let same : c ≡ r = same_some c r (sym named ∙ name_of_place i r here) in
              or_left _ _ (ap (eq_by_cmp name_cmp c) (sym same) ∙ name-itself c)
          | inr later ↦ or_right _ _ (root_at rs i c named later)
        ]

    at_root : (among : List Name) (i : ℕ) (c : Name) → position (has_name c) rows ≡ Some i → is_among among c ≡ true → Contains (places among) i
    at_root [] i c at there = cc
    at_root (r ∷ rs) i c at there =
        elim (or_cases (eq_by_cmp name_cmp c r) (is_among rs c) there) [
          | inl here ↦
              let o : Some i ≡ position (has_name r) rows = sym at ∙ ap (λ d. position (has_name d) rows) (same_name c r here) in
              subst (λ o. Contains (cons_option o (places rs)) i) o (0, omega arith, refl)
          | inr later ↦ gathered_later (position (has_name r) rows) (places rs) i (at_root rs i c at later)
        ]

    -- a link from a place is one from the name there
    link_by_name : (place slot next : ℕ) (c : Name) (o : Option Name) → slice_get names next ≡ Some c → slot < SLOTS → slice_get names place ≡ o → link_from w slot o ≡ Some next →
        ((d : Name) → slice_get names place ≡ Some d → life.Reaches (seen w) roots d) → life.Reaches (seen w) roots c
    link_by_name place slot next c None named within none link from = cc
    link_by_name place slot next c (Some d) named within there link from =
        life.Link d c (from d there) (live-named place d there)
        (slot_links (seen w) d c slot within (it_of_place c (slot_at (seen w) d slot) next link named))

    -- what is reached by places is reached by names
    by_name : (i : ℕ) (c : Name) → slice_get names i ≡ Some c → reach.Reaches (link_of w) (places roots) i → life.Reaches (seen w) roots c
    unfolding link_of
    by_name _ c named (reach.Root place there) = life.Root c (root_at roots place c named there)
    by_name _ c named (reach.Link place slot next reached within is) =
        link_by_name place slot next c (slice_get names place) named within refl is (λ d there. by_name place d there reached)

    -- and the other way round
    by_place : (c : Name) → life.Reaches (seen w) roots c → (i : ℕ) → position (has_name c) rows ≡ Some i → reach.Reaches (link_of w) (places roots) i
    unfolding link_of
    by_place _ (life.Root c there) i at = reach.Root i (at_root roots i c at there)
    by_place _ (life.Link d c reached live linked) i at =
        let place = has_place d live in
        let slot = linked_slot (seen w) d c linked in
        reach.Link place.0 slot.0 i (by_place d reached place.0 place.1) slot.1
        (ap (link_from w slot.0) (name_of_place place.0 d place.1)
        ∙ place_of_it c (slot_at (seen w) d slot.0) slot.2 ∙ at)

    -- so the marks of a search are those of the contexts that are reached
    marked-reached : (marks : List Bool) →
        ((place : ℕ) → place < MOST_CONTEXTS → (is_marked marks place ≡ true) ↔ reach.Reaches (link_of w) (places roots) place) →
        (i : ℕ) (row : Name × ContextRow) → slice_get rows i ≡ Some row → is_marked marks i ≡ is_reached (seen w) roots row.0
    marked-reached marks searched i row is =
        let named = name_of_row i row is in
        let within : i < MOST_CONTEXTS = omega (arith, slice_get_within rows i row is, w.sound.few_contexts, w.sound.size_contexts) in
        same_bool (is_marked marks i) (is_reached (seen w) roots row.0)
        (λ marked. reached_by_way (seen w) roots row.0 (by_name i row.0 named ((searched i within).0 marked)) (live-named i row.0 named))
        (λ reached. (searched i within).1 (by_place row.0 (way_of_reached (seen w) roots row.0 reached) i (place_of_name i row.0 named)))

    -- and the rows that are kept by them too
    pub kept-reached : (searched : List ℕ) (marks slice : List Bool) → searched ≡ places roots → slice ≡ marks → length slice ≡ MOST_CONTEXTS →
        ((place : ℕ) → place < MOST_CONTEXTS → (is_marked marks place ≡ true) ↔ reach.Reaches (link_of w) searched place) →
        items_where_true slice rows ≡ filter (λ row. is_reached (seen w) roots row.0) rows
    kept-reached searched marks slice from is many found =
        kept_rows (is_reached (seen w) roots) slice rows (omega (arith, many, w.sound.few_contexts, w.sound.size_contexts))
        (λ i row there.
        ap (λ l. is_marked l i) is
        ∙ marked-reached marks
        (subst (λ (starts : List ℕ). (place : ℕ) → place < MOST_CONTEXTS → (is_marked marks place ≡ true) ↔ reach.Reaches (link_of w) starts place) from found) i row there)
