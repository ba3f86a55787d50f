-- The cells and the rights of places of which one changes, and what ties rows to kinds.
use Rattle.std.proofs.Common.{◌≡◌, ◌≢◌, ℕ, zero, suc, ◌<◌, ◌≤◌, ⊎_elim, true, List, [], ◌∷◌, get_or, length, set, map, replicate, refl, sym, ◌∙◌, ap, arith, subst, length-set, get_or-set_other, Option, None, Some}
use Rattle.std.specs.List.{range_with_len}
use Rattle.std.specs.Option.{option_map}
use Rattle.std.proofs.lemmas.Bool.{cases_eq, cases_lt}
use Rattle.std.proofs.lemmas.List.{ext_get_or, get_or-map, get_or-set_same, get_or_past, length-map, length-replicate, map-set}
use Rattle.std.proofs.Math.ListN.{get_or-map as get_or-map_all}
use Rattle.std.proofs.lemmas.List.FromFn.{get_or-range_with_len, length-range_with_len}
use Rattle.lwc_types.specs.declared.page.PageValue.{PageValue}
use Rattle.range_map.specs.declared.segment.PageState.{PageState}
use Rattle.range_map.specs.declared.segment.Segment.{Segment}
use Rattle.range_map.specs.declared.segment.SegmentKind.{SegmentKind}
use Rattle.range_map.specs.declared.segment.SegmentKind.TheVariants.{Own, Common}
use Rattle.range_map.specs.Kinds.{kind_at, kind_of, state_at, state_of}
use Rattle.cow_space.specs.Maps as rows
use Rattle.cow_space.specs.Maps.{row_of}
use Rattle.cow_space.specs.Cells.{Place, all_cells, all_rights, all_write, cell_of, no_pages, place_cells, place_of, place_rights, right_in, rights_of, segments_of}
use Rattle.cow_space.specs.Kept.{IsKept, may_have}
use Rattle.lwc_types.proofs.Small.{at-new}
use Rattle.lwc_types.specs.declared.limits.TheConstants.{MOST_PAGES}

pub length-cells : (kinds : List (List Segment)) (maps : List (ℕ → Option PageValue)) → length (all_cells kinds maps) ≡ length maps
unfolding all_cells
length-cells kinds maps = length-map (range_with_len 0 (length maps)) (λ i. place_cells (segments_of kinds i) (row_of maps i)) ∙ length-range_with_len 0 (length maps)

-- no segments are no pages
pub none-cells : (row : ℕ → Option PageValue) → place_cells [] row ≡ no_pages
unfolding state_at
none-cells row = refl

-- the cells of a place
pub at-place : (kinds : List (List Segment)) (maps : List (ℕ → Option PageValue)) (i : ℕ) → length kinds ≡ length maps → place_of (all_cells kinds maps) i ≡ place_cells (segments_of kinds i) (row_of maps i)
unfolding all_cells
at-place kinds maps i same =
    let f : ℕ → Place = λ k. place_cells (segments_of kinds k) (row_of maps k) in
    ⊎_elim
    (λ inside.
    get_or-map f (range_with_len 0 (length maps)) i 0 no_pages (omega (arith, inside, length-range_with_len 0 (length maps)))
    ∙ ap f (get_or-range_with_len 0 (length maps) i 0 inside ∙ omega arith))
    (λ past.
    get_or_past (map f (range_with_len 0 (length maps))) i no_pages (omega (arith, past, length-map (range_with_len 0 (length maps)) f, length-range_with_len 0 (length maps)))
    ∙ sym (ap (λ s. place_cells s (row_of maps i)) (get_or_past kinds i [] (omega (arith, past, same))) ∙ none-cells (row_of maps i)))
    (cases_lt i (length maps))

-- the kind of a cell is that of the page
pub kind-cell : (kind : Option SegmentKind) (value : Option PageValue) → kind_of (cell_of kind value) ≡ kind
kind-cell None value = refl
kind-cell (Some Own) value = refl
kind-cell (Some (Common g)) value = refl

-- a state that is seen by its cell and its right
pub state-again : (state : Option PageState) (value : Option PageValue) → state_of (kind_of (cell_of (option_map (λ s. s.kind) state) value)) (right_in state) ≡ state
state-again None value = refl
state-again (Some s) value = ap (λ kind. state_of kind s.right) (kind-cell (Some s.kind) value)

-- no segments have the right Write at each page
pub none-write : place_rights [] ≡ all_write
unfolding state_at
none-write = refl

-- the rights of a place
pub at-rights : (kinds : List (List Segment)) (i : ℕ) → rights_of (all_rights kinds) i ≡ place_rights (segments_of kinds i)
unfolding all_rights
at-rights kinds i = ap (get_or (map place_rights kinds) i) (sym none-write) ∙ get_or-map_all place_rights kinds i []

-- the rights once one place has other segments
pub set-rights : (kinds : List (List Segment)) (i : ℕ) (segments : List Segment) → all_rights (set kinds i segments) ≡ set (all_rights kinds) i (place_rights segments)
unfolding all_rights
set-rights kinds i segments = map-set place_rights kinds i segments

-- no value fits each kind
pub may-none : (kind : Option SegmentKind) → may_have kind None ≡ true
may-none None = refl
may-none (Some Own) = refl
may-none (Some (Common g)) = refl

module _ (maps : List (ℕ → Option PageValue)) (kinds : List (List Segment)) (i : ℕ) (segments : List Segment) (row : ℕ → Option PageValue) (kept : IsKept maps kinds) (inside : i < length maps) where
  -- what one place has by its new segments and its new row, and the others by theirs, all have once it has them
  pub by-place : (P : ℕ → List Segment → (ℕ → Option PageValue) → Type 0) → P i segments row → ((j : ℕ) → j ≢ i → P j (segments_of kinds j) (row_of maps j)) →
      (j : ℕ) → P j (segments_of (set kinds i segments) j) (row_of (set maps i row) j)
  by-place P here others j =
      ⊎_elim
      (λ same.
      subst (λ k. P k (segments_of (set kinds i segments) k) (row_of (set maps i row) k)) (sym same)
      (subst (λ s. P i s (row_of (set maps i row) i)) (sym (get_or-set_same kinds i segments [] (omega (arith, inside, kept.places))))
      (subst (P i segments) (sym (get_or-set_same maps i row rows.no_pages inside)) here)))
      (λ off.
      subst (λ s. P j s (row_of (set maps i row) j)) (sym (get_or-set_other kinds i j segments [] off))
      (subst (P j (segments_of kinds j)) (sym (get_or-set_other maps i j row rows.no_pages off)) (others j off)))
      (cases_eq j i)

  same-length : length (set kinds i segments) ≡ length (set maps i row)
  same-length = length-set kinds i segments ∙ kept.places ∙ sym (length-set maps i row)

  -- the cells once one place has other segments and another row
  pub set-cells : all_cells (set kinds i segments) (set maps i row) ≡ set (all_cells kinds maps) i (place_cells segments row)
  set-cells =
      ext_get_or no_pages (all_cells (set kinds i segments) (set maps i row)) (set (all_cells kinds maps) i (place_cells segments row))
      (length-cells (set kinds i segments) (set maps i row) ∙ length-set maps i row ∙ sym (length-set (all_cells kinds maps) i (place_cells segments row) ∙ length-cells kinds maps))
      (λ j _.
      at-place (set kinds i segments) (set maps i row) j same-length
      ∙ by-place (λ k s r. place_cells s r ≡ place_of (set (all_cells kinds maps) i (place_cells segments row)) k)
      (sym (get_or-set_same (all_cells kinds maps) i (place_cells segments row) no_pages (omega (arith, inside, length-cells kinds maps))))
      (λ k off. sym (get_or-set_other (all_cells kinds maps) i k (place_cells segments row) no_pages off ∙ at-place kinds maps k kept.places)) j)

  -- rows fit the kinds still, where the new row fits the new segments
  pub kept-set : ((p : ℕ) → may_have (kind_at segments p) (row p) ≡ true) → ((p : ℕ) → MOST_PAGES ≤ p → state_at segments p ≡ None) → IsKept (set maps i row) (set kinds i segments)
  kept-set fit within =
      record {
        places = same-length;
        fit = by-place (λ _ s r. (p : ℕ) → may_have (kind_at s p) (r p) ≡ true) fit (λ j _. kept.fit j);
        within = by-place (λ _ s _. (p : ℕ) → MOST_PAGES ≤ p → state_at s p ≡ None) within (λ j _. kept.within j);
      }

-- places without pages
pub none-kept : (n : ℕ) → IsKept (replicate n rows.no_pages) (replicate n [])
unfolding state_at
none-kept n =
    record {
      places = length-replicate n [] ∙ sym (length-replicate n rows.no_pages);
      fit = λ i p.
          subst (λ s. may_have (kind_at s p) (row_of (replicate n rows.no_pages) i p) ≡ true) (sym (at-new n i []))
          (subst (λ (r : ℕ → Option PageValue). may_have (kind_at [] p) (r p) ≡ true) (sym (at-new n i rows.no_pages)) refl);
      within = λ i p past. ap (λ s. state_at s p) (at-new n i []);
    }

pub none-all : (n : ℕ) → all_cells (replicate n []) (replicate n rows.no_pages) ≡ replicate n no_pages
none-all n =
    ext_get_or no_pages (all_cells (replicate n []) (replicate n rows.no_pages)) (replicate n no_pages)
    (length-cells (replicate n []) (replicate n rows.no_pages) ∙ length-replicate n rows.no_pages ∙ sym (length-replicate n no_pages))
    (λ i _.
    at-place (replicate n []) (replicate n rows.no_pages) i (none-kept n).places
    ∙ ap (λ s. place_cells s (row_of (replicate n rows.no_pages) i)) (at-new n i [])
    ∙ none-cells (row_of (replicate n rows.no_pages) i)
    ∙ sym (at-new n i no_pages))

pub none-rights : (n : ℕ) → all_rights (replicate n []) ≡ replicate n all_write
unfolding all_rights
none-rights zero = refl
none-rights (suc n) = λ k. none-write k ∷ none-rights n k
