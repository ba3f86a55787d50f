-- The place that has what is under a page of a context.
use Rattle.std.proofs.Common.{◌≡◌, ℕ, ◌+◌, refl, sym, ap, ◌∙◌, Option, Some, None}
use Rattle.std.specs.FinMap as fm
use Rattle.std.specs.Option.{option_map}
use Rattle.lwc_base.specs.declared.cell.Cell.{Cell}
use Rattle.lwc_base.specs.declared.cell.Cell.TheVariants.{Own, Common}
use Rattle.lwc_base.specs.Cells.{value_of}
use Rattle.lwc_base.specs.Frames.{own_value}
use Rattle.lwc_base.specs.World.{Group}
use Rattle.lwc_types.specs.declared.key.Key.TheVariants.{Page}
use Rattle.lwc_types.specs.declared.name.Name.{Name}
use Rattle.lwc_types.specs.declared.page.PageValue.{PageValue}
use Rattle.range_map.specs.declared.segment.SegmentKind.TheVariants as kind
use Rattle.range_map.specs.Kinds.{kind_of}
use Rattle.lazy_world.specs.Memory.{holder, holder_of, page_in}
use Rattle.lazy_world.specs.States.{Parts, held, world_of}
use Rattle.lazy_world.proofs.WorldLemmas.{group-found, group-missed}

held-own : (p : ℕ) (cell : Cell (Option PageValue)) → held (Page p) cell ≡ own_value cell
held-own p (Own value) = refl
held-own p (Common g) = refl

module _ (s : Parts) where
  -- what is under a page is what its holder has
  pub page-held : (i p j : ℕ) → holder s i p ≡ Some j → page_in (world_of s) (s.rows i) p ≡ own_value (s.rows j (Page p))
  page-held i p j is = at (s.rows i (Page p)) refl is
    where
      by : (g : Name) (o : Option ℕ) → fm.get s.groups.map g ≡ o → option_map (λ q. s.size.contexts + q) o ≡ Some j → value_of (world_of s) (Page p) (Common g) ≡ own_value (s.rows j (Page p))
      by g None found is = absurd cc
      by g (Some q) found is =
          let there : s.size.contexts + q ≡ j = cc in
          ap (λ (x : Group). x.value (Page p)) (group-found s g q found) ∙ held-own p (s.rows (s.size.contexts + q) (Page p)) ∙ ap (λ k. own_value (s.rows k (Page p))) there

      at : (cell : Cell (Option PageValue)) → s.rows i (Page p) ≡ cell → holder_of s i cell ≡ Some j → value_of (world_of s) (Page p) cell ≡ own_value (s.rows j (Page p))
      at (Own None) same is = absurd cc
      at (Own (Some value)) same is = let here : i ≡ j = cc in sym (ap own_value same) ∙ ap (λ k. own_value (s.rows k (Page p))) here
      at (Common g) same is = by g (fm.get s.groups.map g) refl is

  -- a page without a holder has nothing
  pub page-lost : (i p : ℕ) → holder s i p ≡ None → page_in (world_of s) (s.rows i) p ≡ None
  page-lost i p is = at (s.rows i (Page p)) is
    where
      by : (g : Name) (o : Option ℕ) → fm.get s.groups.map g ≡ o → option_map (λ q. s.size.contexts + q) o ≡ None → value_of (world_of s) (Page p) (Common g) ≡ None
      by g None missed is = ap (λ (x : Group). x.value (Page p)) (group-missed s g missed)
      by g (Some q) missed is = absurd cc

      at : (cell : Cell (Option PageValue)) → holder_of s i cell ≡ None → value_of (world_of s) (Page p) cell ≡ None
      at (Own None) is = refl
      at (Own (Some value)) is = absurd cc
      at (Common g) is = by g (fm.get s.groups.map g) refl is

  -- the holder by the kind of a cell
  pub holder-common : (i : ℕ) (g : Name) (cell : Cell (Option PageValue)) → kind_of cell ≡ Some (kind.Common g) → holder_of s i cell ≡ option_map (λ q. s.size.contexts + q) (fm.get s.groups.map g)
  holder-common i g (Own None) is = absurd cc
  holder-common i g (Own (Some value)) is = absurd cc
  holder-common i g (Common h) is = let same : h ≡ g = cc in ap (λ n. option_map (λ q. s.size.contexts + q) (fm.get s.groups.map n)) same

  pub holder-own : (i : ℕ) (cell : Cell (Option PageValue)) → kind_of cell ≡ Some kind.Own → holder_of s i cell ≡ Some i
  holder-own i (Own None) is = absurd cc
  holder-own i (Own (Some value)) is = refl
  holder-own i (Common g) is = absurd cc

  pub holder-none : (i : ℕ) (cell : Cell (Option PageValue)) → kind_of cell ≡ None → holder_of s i cell ≡ None
  holder-none i (Own None) is = refl
  holder-none i (Own (Some value)) is = absurd cc
  holder-none i (Common g) is = absurd cc
