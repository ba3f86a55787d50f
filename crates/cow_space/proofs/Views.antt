-- The places of page cells, by their rows, their kinds and their rights.
use Rattle.std.proofs.Common.{◌≡◌, ◌≢◌, ℕ, ◌<◌, ◌≤◌, ⊎_elim, true, List, [], length, get_or, set, sym, ◌∙◌, ap, arith, subst, Option, None, Some}
use Rattle.std.proofs.lemmas.Bool.{cases_lt}
use Rattle.std.proofs.lemmas.List.{get_or_read, length-map}
use Rattle.std.specs.Option.{option_map}
use Rattle.lwc_base.specs.declared.cell.Cell.TheVariants as cell
use Rattle.lwc_types.specs.declared.page.PageValue.{PageValue}
use Rattle.lwc_types.specs.declared.right.Right.{Right}
use Rattle.lwc_types.specs.declared.right.Right.TheVariants.{Write}
use Rattle.range_map.specs.declared.segment.PageState.{PageState}
use Rattle.range_map.specs.declared.segment.Segment.{Segment}
use Rattle.range_map.specs.declared.segment.SegmentKind.{SegmentKind}
use Rattle.range_map.specs.declared.segment.SegmentKind.TheVariants.{Own}
use Rattle.range_map.specs.Kinds.{kind_at, kind_of, state_at, state_of}
use Rattle.cow_space.specs.declared.cells.PageCells.{PageCells}
use Rattle.cow_space.specs.Cells.{IsOwnPage, Place, all_cells, all_rights, kinds_of, no_pages, place_cells, place_of, place_rights, right_in, rights_of, segments_of, states_of}
use Rattle.cow_space.specs.Kept.{HasNoOwnPage, IsKept, may_have}
use Rattle.cow_space.specs.Maps.{row_of}
use Rattle.cow_space.specs.RowSeen.{HasNoTree, maps}
use Rattle.cow_space.specs.Seen.{cells, rights}
use Rattle.cow_space.proofs.Places.{at-place, at-rights, by-place, kept-set, kind-cell, length-cells, set-cells, set-rights, state-again}
use Rattle.lwc_types.specs.declared.limits.TheConstants.{MOST_PAGES}

module _ (w : PageCells) where
  pub row-count : length (cells w) ≡ length (maps w.rows)
  unfolding cells
  row-count = length-cells w.kinds (maps w.rows)

  pub row-in : (i : ℕ) → i < length (cells w) → i < length (maps w.rows)
  row-in i inside = omega (arith, inside, row-count)

  pub kinds-in : (i : ℕ) → i < length (cells w) → i < length w.kinds
  kinds-in i inside = omega (arith, inside, row-count, w.kept.places)

  pub place-at : (i : ℕ) → place_of (cells w) i ≡ place_cells (segments_of w.kinds i) (row_of (maps w.rows) i)
  unfolding cells
  place-at i = at-place w.kinds (maps w.rows) i w.kept.places

  -- each place has its rights
  pub rights-count : length (rights w) ≡ length (cells w)
  unfolding rights all_rights
  rights-count = length-map w.kinds place_rights ∙ w.kept.places ∙ sym row-count

  pub rights-at : (i : ℕ) → rights_of (rights w) i ≡ place_rights (segments_of w.kinds i)
  unfolding rights
  rights-at i = at-rights w.kinds i

  -- what is read of the kinds is the segments of a place, and those give its kinds and its states
  pub read-segments : (i : ℕ) (segments : List Segment) → i < length (cells w) → segments ≡ get_or w.kinds i segments → segments ≡ segments_of w.kinds i
  read-segments i segments inside is = get_or_read w.kinds i segments (kinds-in i inside) is []

  pub place-kinds : (i : ℕ) → kind_at (segments_of w.kinds i) ≡ kinds_of (place_of (cells w) i)
  place-kinds i = sym (ap kinds_of (place-at i) ∙ (λ k p. kind-cell (kind_at (segments_of w.kinds i) p) (row_of (maps w.rows) i p) k))

  pub read-kinds : (i : ℕ) (segments : List Segment) → i < length (cells w) → segments ≡ get_or w.kinds i segments → kind_at segments ≡ kinds_of (place_of (cells w) i)
  read-kinds i segments inside is = ap kind_at (read-segments i segments inside is) ∙ place-kinds i

  pub place-states : (i : ℕ) → state_at (segments_of w.kinds i) ≡ states_of (place_of (cells w) i) (rights_of (rights w) i)
  place-states i =
      sym ((λ k. states_of (place-at i k) (rights-at i k)) ∙ (λ k p. state-again (state_at (segments_of w.kinds i) p) (row_of (maps w.rows) i p) k))

  pub read-states : (i : ℕ) (segments : List Segment) → i < length (cells w) → segments ≡ get_or w.kinds i segments →
      state_at segments ≡ states_of (place_of (cells w) i) (rights_of (rights w) i)
  read-states i segments inside is = ap state_at (read-segments i segments inside is) ∙ place-states i

  -- an absent page has the right Write
  pub absent-right : (i p : ℕ) → place_of (cells w) i p ≡ cell.Own None → rights_of (rights w) i p ≡ Write
  absent-right i p none =
      ap (λ (f : ℕ → Right). f p) (rights-at i)
      ∙ ap (λ (f : ℕ → Option PageState). right_in (f p)) (place-states i)
      ∙ ap (λ cell. right_in (state_of (kind_of cell) (rights_of (rights w) i p))) none

  -- a page that is the place's own is one by its segments, and none past the last one
  pub own-segments : (i p : ℕ) → IsOwnPage (place_of (cells w) i p) → kind_at (segments_of w.kinds i) p ≡ Some Own
  own-segments i p own = ap (λ (f : ℕ → Option SegmentKind). f p) (place-kinds i) ∙ own

  pub own-page : (i p : ℕ) → IsOwnPage (place_of (cells w) i p) → p < MOST_PAGES
  own-page i p own =
      ⊎_elim (λ low. low) (λ past. absurd (let none = sym (own-segments i p own) ∙ ap (option_map (λ (s : PageState). s.kind)) (w.kept.within i p past) in cc)) (cases_lt p MOST_PAGES)

  -- a place without pages has no tree
  pub no-tree : (i : ℕ) → place_of (cells w) i ≡ no_pages → HasNoTree w.rows i
  no-tree i empty =
      w.bare i (λ p own. let kind = ap (λ (f : ℕ → Option SegmentKind). f p) (place-kinds i) ∙ ap (λ (place : Place). kind_of (place p)) empty in let same = sym kind ∙ own in cc)

  -- a place has other segments and another row
  module _ (i : ℕ) (segments : List Segment) (row : ℕ → Option PageValue) (rows : List (ℕ → Option PageValue)) (inside : i < length (cells w)) (are : rows ≡ set (maps w.rows) i row) where
    pub cells-set : all_cells (set w.kinds i segments) rows ≡ set (cells w) i (place_cells segments row)
    unfolding cells
    cells-set = ap (all_cells (set w.kinds i segments)) are ∙ set-cells (maps w.rows) w.kinds i segments row w.kept (row-in i inside)

    pub kept-still : ((p : ℕ) → may_have (kind_at segments p) (row p) ≡ true) → ((p : ℕ) → MOST_PAGES ≤ p → state_at segments p ≡ None) → IsKept rows (set w.kinds i segments)
    kept-still fit within =
        subst (λ ms. IsKept ms (set w.kinds i segments)) (sym are) (kept-set (maps w.rows) w.kinds i segments row w.kept (row-in i inside) fit within)

  -- a place has other segments: its rights
  pub rights-set : (i : ℕ) (segments : List Segment) → all_rights (set w.kinds i segments) ≡ set (rights w) i (place_rights segments)
  unfolding rights
  rights-set i segments = set-rights w.kinds i segments

  pub bare-still : (i : ℕ) (segments : List Segment) (after : ℕ → Type 0) → i < length (cells w) → ((j : ℕ) → j ≢ i → HasNoTree w.rows j → after j) → (HasNoOwnPage segments → after i) →
      (j : ℕ) → HasNoOwnPage (segments_of (set w.kinds i segments) j) → after j
  bare-still i segments after inside others here =
      by-place (maps w.rows) w.kinds i segments (row_of (maps w.rows) i) w.kept (row-in i inside) (λ j s _. HasNoOwnPage s → after j) here (λ j off none. others j off (w.bare j none))
