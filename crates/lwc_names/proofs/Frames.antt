-- Tags under other numbers: as many frames are used, and the same pages part.
use Rattle.std.proofs.Common.{◌≡◌, ℕ, ◌+◌, refl, sym, ap, ◌∙◌, cond, ltb, Option, Some, None, List, [], ◌∷◌, ◌++◌, map}
use Rattle.std.proofs.lemmas.List.Sums.{sum_by-cons}
use Rattle.std.specs.Prelude.{count_by}
use Rattle.std.specs.List.{flat_map, range_with_len}
use Rattle.std.specs.Ordering.{is_eq}
use Rattle.std.specs.FinMap as fm
use Rattle.lwc_base.proofs.Facts.{orders}
use Rattle.lwc_base.specs.Frames.{is_parting, own_value, tag_of, tags, tags_of_context, tags_of_group, used}
use Rattle.lwc_base.specs.World.{World, Context, Group}
use Rattle.lwc_base.specs.declared.cell.Cell.{Cell}
use Rattle.lwc_base.specs.declared.cell.Cell.TheVariants.{Own, Common}
use Rattle.lwc_types.specs.Names.{name_cmp, tag_cmp}
use Rattle.lwc_types.specs.declared.key.Key.TheVariants.{Page}
use Rattle.lwc_types.specs.declared.name.Name.{Name}
use Rattle.lwc_types.specs.declared.name.Tag.{Tag}
use Rattle.lwc_types.specs.declared.page.PageValue.{PageValue}
use Rattle.lwc_types.specs.declared.page.PageValue.TheVariants.{Zero, Data}
use Rattle.std.specs.FinSet as set
use Rattle.lwc_names.proofs.Tables as tables
use Rattle.lwc_names.proofs.Tables.{name_cmp-shifted, tag_cmp-shifted}
use Rattle.lwc_names.specs.Shifts.{shifted_cell, shifted_context, shifted_group, shifted_name, shifted_page, shifted_tag, shifted_value, shifted_world}

pub map-append : {A B : Type 0} (f : A → B) (xs ys : List A) → map f (xs ++ ys) ≡ map f xs ++ map f ys
map-append f [] ys = refl
map-append f (x ∷ xs) ys = ap (λ l. f x ∷ l) (map-append f xs ys)

flat-map : {A B : Type 0} (f : B → B) (g h : A → List B) → ((x : A) → h x ≡ map f (g x)) → (xs : List A) → flat_map h xs ≡ map f (flat_map g xs)
flat-map f g h same [] = refl
flat-map f g h same (x ∷ xs) = (λ i. same x i ++ flat-map f g h same xs i) ∙ sym (map-append f (g x) (flat_map g xs))

flat-of-map : {A B C : Type 0} (f : A → B) (g : B → List C) (xs : List A) → flat_map g (map f xs) ≡ flat_map (λ x. g (f x)) xs
flat-of-map f g [] = refl
flat-of-map f g (x ∷ xs) = ap (λ l. g (f x) ++ l) (flat-of-map f g xs)

module _ (r : ℕ) where
  tag_of-shifted : (value : Option PageValue) → tag_of (shifted_value r (Page 0) value) ≡ map (shifted_tag r) (tag_of value)
  tag_of-shifted None = refl
  tag_of-shifted (Some Zero) = refl
  tag_of-shifted (Some (Data tag bytes)) = refl

  own-shifted : (cell : Cell (Option PageValue)) → tag_of (own_value (shifted_cell r (Page 0) cell)) ≡ map (shifted_tag r) (tag_of (own_value cell))
  own-shifted (Own value) = tag_of-shifted value
  own-shifted (Common g) = refl

  of_context-shifted : (pages : ℕ) (x : Context) → tags_of_context pages (shifted_context r x) ≡ map (shifted_tag r) (tags_of_context pages x)
  unfolding tags_of_context
  of_context-shifted pages x = flat-map (shifted_tag r) (λ p. tag_of (own_value (x.cell (Page p)))) (λ p. tag_of (own_value (shifted_cell r (Page p) (x.cell (Page p))))) (λ p. own-shifted (x.cell (Page p))) (range_with_len 0 pages)

  of_group-shifted : (pages : ℕ) (x : Group) → tags_of_group pages (shifted_group r x) ≡ map (shifted_tag r) (tags_of_group pages x)
  unfolding tags_of_group
  of_group-shifted pages x = flat-map (shifted_tag r) (λ p. tag_of (x.value (Page p))) (λ p. tag_of (shifted_value r (Page p) (x.value (Page p)))) (λ p. tag_of-shifted (x.value (Page p))) (range_with_len 0 pages)

  module _ {X : Type 0} (f : X → X) (g : X → List Tag) (same : (x : X) → g (f x) ≡ map (shifted_tag r) (g x)) where
    of_table-shifted : (m : fm.FinMap name_cmp X) → flat_map (λ e. g e.1) (fm.entries (fm.from_sorted {R = name_cmp} (map (λ (e : Name × X). (shifted_name r e.0, f e.1)) (fm.entries m)))) ≡ map (shifted_tag r) (flat_map (λ e. g e.1) (fm.entries m))
    of_table-shifted m =
        ap (flat_map (λ (e : Name × X). g e.1)) (tables.entries-shifted name_cmp (shifted_name r) (name_cmp-shifted r) f m)
        ∙ flat-of-map (λ (e : Name × X). (shifted_name r e.0, f e.1)) (λ e. g e.1) (fm.entries m)
        ∙ flat-map (shifted_tag r) (λ (e : Name × X). g e.1) (λ e. g (f e.1)) (λ e. same e.1) (fm.entries m)

  pub tags-shifted : (w : World) → tags (shifted_world r w) ≡ map (shifted_tag r) (tags w)
  unfolding tags shifted_world
  tags-shifted w =
      (λ i. of_table-shifted (shifted_context r) (tags_of_context w.size.pages) (of_context-shifted w.size.pages) w.contexts i
      ++ of_table-shifted (shifted_group r) (tags_of_group w.size.pages) (of_group-shifted w.size.pages) w.groups i)
      ∙ sym (map-append (shifted_tag r) (flat_map (λ e. tags_of_context w.size.pages e.1) (fm.entries w.contexts)) (flat_map (λ e. tags_of_group w.size.pages e.1) (fm.entries w.groups)))

  pub used-shifted : (w : World) → used (shifted_world r w) ≡ used w
  unfolding used
  used-shifted w =
      (λ i. set.len (set.from_list {R = tag_cmp} (tags-shifted w i)))
      ∙ tables.set_len-shifted tag_cmp (shifted_tag r) (tag_cmp-shifted r) orders.tags (tags w)

  times-shifted : (tag : Tag) (ts : List Tag) → count_by (λ t. is_eq (tag_cmp t (shifted_tag r tag))) (map (shifted_tag r) ts) ≡ count_by (λ t. is_eq (tag_cmp t tag)) ts
  times-shifted tag [] = refl
  times-shifted tag (t ∷ ts) =
      sum_by-cons (λ u. cond (is_eq (tag_cmp u (shifted_tag r tag))) 1 0) (shifted_tag r t) (map (shifted_tag r) ts)
      ∙ (λ i. cond (is_eq (tag_cmp-shifted r t tag i)) 1 0 + times-shifted tag ts i)
      ∙ sym (sum_by-cons (λ u. cond (is_eq (tag_cmp u tag)) 1 0) t ts)

  pub parting-shifted : (w : World) (value : PageValue) → is_parting (shifted_world r w) (shifted_page r value) ≡ is_parting w value
  unfolding is_parting
  parting-shifted w Zero = refl
  parting-shifted w (Data tag bytes) = ap (λ n. ltb 1 n) (ap (count_by (λ t. is_eq (tag_cmp t (shifted_tag r tag)))) (tags-shifted w) ∙ times-shifted tag (tags w))
