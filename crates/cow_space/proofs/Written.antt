-- A page of a place that is written.
use Rattle.std.proofs.Common.{◌≡◌, ◌≢◌, ℕ, ◌<◌, ⊎_elim, true, cond, eqb, List, [], length, set, refl, sym, ◌∙◌, ap, arith, subst, Option, Some, unwrap_or}
use Rattle.std.proofs.lemmas.Bool.{cases_eq}
use Rattle.std.proofs.lemmas.Bool.Decides.{nat_tests}
use Rattle.std.proofs.lemmas.List.{set-get_or}
use Rattle.lwc_base.specs.declared.cell.Cell.TheVariants as cell
use Rattle.lwc_base.specs.Store.{Piece, bytes_after, stored_value}
use Rattle.lwc_types.specs.declared.name.Tag.{Tag}
use Rattle.lwc_types.specs.declared.page.PageValue.{PageValue}
use Rattle.lwc_types.specs.declared.page.PageValue.TheVariants.{Zero}
use Rattle.lwc_types.specs.Pages.{bytes_of}
use Rattle.range_map.specs.declared.segment.Segment.{Segment}
use Rattle.range_map.specs.declared.segment.SegmentKind.TheVariants.{Own}
use Rattle.range_map.specs.Kinds.{kind_at}
use Rattle.cow_space.specs.Maps.{put_page, row_of}
use Rattle.cow_space.specs.RowWrites as row
use Rattle.cow_space.specs.declared.cells.PageCells.{PageCells}
use Rattle.cow_space.specs.Cells.{IsOwnPage, Place, all_cells, cell_of, place_of, segments_of}
use Rattle.cow_space.specs.RowSeen.{HasNoTree, maps}
use Rattle.cow_space.specs.Seen.{cells}
use Rattle.cow_space.specs.Kept.{HasNoOwnPage, IsKept, may_have}
use Rattle.cow_space.specs.Writes.{write_page, written_value}
use Rattle.cow_space.proofs.Views.{cells-set, kept-still, own-segments, place-at}
use Rattle.cow_space.proofs.OwnTags.{own-rows, parting-rows}

module _ (w : PageCells) (i p : ℕ) (piece : Piece) (tag : Tag) (rows : List (ℕ → Option PageValue)) (inside : i < length (cells w)) (own : IsOwnPage (place_of (cells w) i p)) (written : rows ≡ row.write_page (maps w.rows) i p piece tag) where
  abbrev segments : List Segment
  segments = segments_of w.kinds i

  abbrev value : PageValue
  value = row.written_value (maps w.rows) i p piece tag

  value-same : value ≡ written_value (cells w) i p piece tag
  value-same =
      let old = own-rows w (λ o. unwrap_or o Zero) refl i p in
      (λ x. stored_value (sym (parting-rows w i p) x) tag (sym old x) (bytes_after piece p (bytes_of (sym old x))))

  here : (q : ℕ) → q ≡ p → kind_at segments q ≡ Some Own
  here q is = ap (kind_at segments) is ∙ own-segments w i p own

  cell-put : (q : ℕ) → cell_of (kind_at segments q) (cond (eqb q p) (Some value) (row_of (maps w.rows) i q)) ≡ cond (eqb q p) (cell.Own (Some value)) (place_of (cells w) i q)
  cell-put q =
      let at = ap (λ (place : Place). place q) (place-at w i) in
      ⊎_elim
      (λ is. let kind = here q is in grind (arith, nat_tests, is, kind))
      (λ off. grind (arith, nat_tests, off, at))
      (cases_eq q p)

  pub cells-written : all_cells w.kinds rows ≡ write_page (cells w) i p piece tag
  cells-written =
      ap (λ ks. all_cells ks rows) (sym (set-get_or w.kinds i []))
      ∙ cells-set w i segments (put_page (row_of (maps w.rows) i) p (Some value)) rows inside written
      ∙ ap (set (cells w) i) ((λ x q. cell-put q x) ∙ (λ x. put_page (place_of (cells w) i) p (cell.Own (Some (value-same x)))))

  fit-put : (q : ℕ) → may_have (kind_at segments q) (cond (eqb q p) (Some value) (row_of (maps w.rows) i q)) ≡ true
  fit-put q =
      let fit = w.kept.fit i q in
      ⊎_elim (λ is. let kind = here q is in grind (arith, kind)) (λ off. grind (arith, nat_tests, off, fit)) (cases_eq q p)

  pub kept-written : IsKept rows w.kinds
  kept-written =
      subst (IsKept rows) (set-get_or w.kinds i [])
      (kept-still w i segments (put_page (row_of (maps w.rows) i) p (Some value)) rows inside written fit-put (w.kept.within i))

  -- a place without pages has no tree still
  pub bare-written : (after : ℕ → Type 0) → ((j : ℕ) → j ≢ i → HasNoTree w.rows j → after j) → (j : ℕ) → HasNoOwnPage (segments_of w.kinds j) → after j
  bare-written after others j none =
      others j (λ same. absurd (subst (λ k. HasNoOwnPage (segments_of w.kinds k)) same none p (here p refl))) (w.bare j none)
