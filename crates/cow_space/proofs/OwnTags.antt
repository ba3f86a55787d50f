-- What places have of their own is what their rows have, but that a present page without a value reads as zeros.
use Rattle.std.proofs.Common.{◌≡◌, ℕ, suc, ◌<◌, true, List, [], ◌∷◌, ◌++◌, length, get_or, refl, sym, ◌∙◌, ap, arith, Option, None, Some}
use Rattle.std.specs.List.{flat_map, range_with_len}
use Rattle.lwc_base.specs.Frames.{own_value, tag_of}
use Rattle.lwc_types.specs.declared.page.PageValue.{PageValue}
use Rattle.lwc_types.specs.declared.page.PageValue.TheVariants.{Zero}
use Rattle.range_map.specs.declared.segment.SegmentKind.{SegmentKind}
use Rattle.range_map.specs.declared.segment.SegmentKind.TheVariants.{Own, Common}
use Rattle.range_map.specs.Kinds.{kind_at}
use Rattle.lwc_types.specs.declared.name.Tag.{Tag}
use Rattle.cow_space.specs.declared.cells.PageCells.{PageCells}
use Rattle.cow_space.specs.RowSeen.{maps}
use Rattle.cow_space.specs.Seen.{cells}
use Rattle.cow_space.specs.Maps.{row_of}
use Rattle.cow_space.specs.Maps as rows
use Rattle.cow_space.specs.Cells.{Place, cell_of, no_pages, place_of, segments_of}
use Rattle.cow_space.specs.Kept.{may_have}
use Rattle.cow_space.specs.Tags.{IsNewTag, different, is_parting, own_values, parts, row_tags, tags, tags_of_map, tags_of_place, times, used}
use Rattle.cow_space.proofs.Taken.{new-times}
use Rattle.cow_space.proofs.Views.{place-at, row-count}
use Rattle.page_tree.specs.declared.store.TheConstants.{PAGES}

flat_map-same : {X Y A : Type 0} (f : X → List A) (g : Y → List A) (xs : List X) (ys : List Y) (d : X) (e : Y) → length xs ≡ length ys → ((i : ℕ) → i < length xs → f (get_or xs i d) ≡ g (get_or ys i e)) → flat_map f xs ≡ flat_map g ys
flat_map-same f g [] [] d e long same = refl
flat_map-same f g [] (y ∷ ys) d e long same = absurd (omega (arith, long))
flat_map-same f g (x ∷ xs) [] d e long same = absurd (omega (arith, long))
flat_map-same f g (x ∷ xs) (y ∷ ys) d e long same =
    let head = same 0 (omega arith) in
    let tail = flat_map-same f g xs ys d e (omega (arith, long)) (λ i lt. same (suc i) (omega (arith, lt))) in
    λ k. head k ++ tail k

-- what does not tell zeros from nothing
own-same : {A : Type 0} (f : Option PageValue → A) → f (Some Zero) ≡ f None → (kind : Option SegmentKind) (value : Option PageValue) → may_have kind value ≡ true → f (own_value (cell_of kind value)) ≡ f value
own-same f zero None None fit = refl
own-same f zero None (Some v) fit = absurd cc
own-same f zero (Some Own) None fit = zero
own-same f zero (Some Own) (Some v) fit = refl
own-same f zero (Some (Common g)) None fit = refl
own-same f zero (Some (Common g)) (Some v) fit = absurd cc

module _ (w : PageCells) where
  pub own-rows : {A : Type 0} (f : Option PageValue → A) → f (Some Zero) ≡ f None → (i p : ℕ) → f (own_values (place_of (cells w) i) p) ≡ f (row_of (maps w.rows) i p)
  own-rows f zero i p =
      ap (λ (place : Place). f (own_values place p)) (place-at w i) ∙ own-same f zero (kind_at (segments_of w.kinds i) p) (row_of (maps w.rows) i p) (w.kept.fit i p)

  pub tags-rows : tags (cells w) ≡ row_tags (maps w.rows)
  unfolding tags row_tags tags_of_place tags_of_map
  tags-rows =
      flat_map-same tags_of_place tags_of_map (cells w) (maps w.rows) no_pages rows.no_pages (row-count w)
      (λ i _ k. flat_map (λ p. own-rows tag_of refl i p k) (range_with_len 0 PAGES))

  pub used-rows : used (cells w) ≡ different (row_tags (maps w.rows))
  unfolding used
  used-rows = ap different tags-rows

  pub parting-rows : (i p : ℕ) → is_parting (cells w) i p ≡ parts (row_tags (maps w.rows)) (row_of (maps w.rows) i p)
  unfolding is_parting
  parting-rows i p = ap (λ ts. parts ts (own_values (place_of (cells w) i) p)) tags-rows ∙ own-rows (parts (row_tags (maps w.rows))) refl i p

  pub new-rows : (tag : Tag) → IsNewTag (cells w) tag → times tag (row_tags (maps w.rows)) ≡ 0
  new-rows tag new = ap (times tag) (sym tags-rows) ∙ new-times (cells w) tag new
