-- The ranges of a group that gets what moves are no more than those of the context once it has moved.
use Rattle.std.proofs.Common.{◌≡◌, ℕ, ◌≤◌, List, arith, refl, sym, ap, subst, ◌∙◌, true, false, cond, Option, Some, None}
use Rattle.std.specs.Prelude.{is_some, unwrap_or}
use Rattle.std.specs.FinMap as fm
use Rattle.std.specs.Option.{option_map}
use Rattle.lwc_base.specs.declared.cell.Cell.{Cell}
use Rattle.lwc_base.specs.declared.cell.Cell.TheVariants as cells
use Rattle.lwc_base.specs.declared.item.Item.{Item}
use Rattle.lwc_base.specs.declared.item.Mode.{Mode}
use Rattle.lwc_base.specs.declared.item.Mode.TheVariants.{Copy, Share, Unmap, CopyRead}
use Rattle.lwc_base.specs.Fresh.{IsFresh}
use Rattle.lwc_base.specs.Modes.{IsSpec, mode, mode_or_copy}
use Rattle.lwc_base.specs.Ranges as base
use Rattle.lwc_base.specs.Ranges.{ranges_of}
use Rattle.lwc_base.specs.Sharing.{is_moved, moved_value, needs_group, share, with_shared}
use Rattle.lwc_base.specs.World.{World, Context, context, is_live, next_group}
use Rattle.lwc_types.specs.declared.key.Key.TheVariants.{Page}
use Rattle.lwc_types.specs.declared.limits.TheConstants.{MOST_PAGES, MOST_RANGES}
use Rattle.lwc_types.specs.declared.name.Name.{Name}
use Rattle.lwc_types.specs.declared.page.PageValue.{PageValue}
use Rattle.lwc_types.specs.declared.right.Right.{Right}
use Rattle.lwc_types.specs.declared.right.Right.TheVariants.{Write}
use Rattle.range_map.specs.Kinds.{kind_of, ranges, state_of}
use Rattle.range_map.specs.declared.segment.PageState.{PageState}
use Rattle.range_map.specs.declared.segment.SegmentKind.TheVariants.{Own, Common}
use Rattle.cow_space.specs.Cells.{all_write}
use Rattle.lazy_world.specs.Cells.{Row, no_row, states_of}
use Rattle.lazy_world.specs.Transfers.{moves, transferred_rights, transferred_row}
use Rattle.lazy_world.specs.Sound.{IsSound, IsWithin}
use Rattle.lazy_world.specs.States.{Parts, world_of}
use Rattle.lazy_world.specs.declared.transfer.Transfer.TheVariants.{Mark, Move}
use Rattle.lazy_world.proofs.MapLemmas.{no_state}
use Rattle.lazy_world.proofs.MarkLemmas.{kind-of-state}
use Rattle.lazy_world.proofs.PastLemmas.{transferred-within}
use Rattle.lazy_world.proofs.ShareLemmas.{fewer-ranges}
use Rattle.lazy_world.proofs.WorldLemmas.{context-found, live-there}
use Rattle.lwc_base.proofs.Facts.{changes, stays_fresh}
use Rattle.range_map.proofs.Ranges.{ranges_of_context}

pub moved-kind : (m : Mode) (p : ℕ) (cell : Cell (Option PageValue)) → kind_of (cells.Own (moved_value m (Page p) cell)) ≡ cond (is_moved m (Page p) cell) (Some Own) None
moved-kind Copy p cell = refl
moved-kind Unmap p cell = refl
moved-kind CopyRead p cell = refl
moved-kind Share p (cells.Own None) = refl
moved-kind Share p (cells.Own (Some v)) = refl
moved-kind Share p (cells.Common g) = refl

-- the state of what moves, with the right that it has
pub moved-state : (m : Mode) (p : ℕ) (cell : Cell (Option PageValue)) (right : Right) →
    state_of (kind_of (cells.Own (moved_value m (Page p) cell))) (cond (is_moved m (Page p) cell) right Write) ≡ cond (is_moved m (Page p) cell) (Some (record { kind = Own; right = right })) None
moved-state Copy p cell right = refl
moved-state Unmap p cell right = refl
moved-state CopyRead p cell right = refl
moved-state Share p (cells.Own None) right = refl
moved-state Share p (cells.Own (Some v)) right = refl
moved-state Share p (cells.Common g) right = refl

pub common-cell : (cell : Cell (Option PageValue)) (g : Name) → kind_of cell ≡ Some (Common g) → cell ≡ cells.Common g
common-cell (cells.Own None) g is = absurd (let e = is in cc)
common-cell (cells.Own (Some v)) g is = absurd (let e = is in cc)
common-cell (cells.Common h) g is = let same : h ≡ g = cc in ap cells.Common same

pub common-state : (cell : Cell (Option PageValue)) (right r : Right) (g : Name) → state_of (kind_of cell) right ≡ Some (record { kind = Common g; right = r }) → cell ≡ cells.Common g
common-state cell right r g is = common-cell cell g (sym (kind-of-state (kind_of cell) right) ∙ ap (option_map (λ (s : PageState). s.kind)) is)

-- a live context has nothing past the pages of the world
pub live-past : (s : Parts) (sound : IsSound s) (c : Name) → is_live (world_of s) c ≡ true → IsWithin s.size.pages (context (world_of s) c).cell
live-past s sound c live = at (fm.get s.contexts.map c) refl (sym (live-there s c) ∙ live)
  where
    at : (o : Option ℕ) → fm.get s.contexts.map c ≡ o → is_some (fm.get s.contexts.map c) ≡ true → IsWithin s.size.pages (context (world_of s) c).cell
    at None is there = absurd (let e = sym (ap is_some is) ∙ there in cc)
    at (Some i) is there = subst (λ (x : Context). IsWithin s.size.pages x.cell) (sym (context-found s c i is)) (sound.past i)

module _ (w : World) (fresh : IsFresh w) (c : Name) (job : ℕ) (items : List Item) (few : w.size.pages ≤ MOST_PAGES) (within : IsWithin w.size.pages (context w c).cell)
    (spec : IsSpec w.size.pages items) (live : is_live w c ≡ true) (needs : needs_group w c items ≡ true) where
  abbrev g : Name
  g = next_group w job

  abbrev row : Row
  row = (context w c).cell

  abbrev right : ℕ → Right
  right = (context w c).right

  abbrev states : ℕ → Option PageState
  states = states_of (transferred_row w (Mark g) items row row) right

  shared-ranges : ranges_of (share w c job items) c ≡ ranges MOST_PAGES states
  unfolding ranges_of with_shared mode_or_copy
  shared-ranges =
      let shared = changes.shared w c job items in
      ap (λ n. base.ranges n.pages (context (share w c job items) c)) shared.size
      ∙ ap (base.ranges w.size.pages) (shared.named needs live)
      ∙ ranges_of_context w.size.pages (with_shared g items (context w c)) states few (λ p low. refl)
      (λ p past low. no_state p (transferred_row w (Mark g) items row row (Page p)) (right p) (transferred-within w w.size.pages items spec (Mark g) row row within within (Page p) past))

  away : (p : ℕ) (r : Right) → moves items (Page p) row ≡ false → states p ≡ Some (record { kind = Common g; right = r }) → ⊥
  away p r off is =
      let kept : state_of (kind_of (row (Page p))) (right p) ≡ Some (record { kind = Common g; right = r }) = sym (ap (λ b. state_of (kind_of (cond b (cells.Common g) (row (Page p)))) (right p)) off) ∙ is in
      let named = stays_fresh.named w c (Page p) g fresh (common-state (row (Page p)) (right p) r g kept) in
      absurd (omega (arith, named))

  pub moved-few : ranges_of (share w c job items) c ≤ MOST_RANGES → (w1 : World) → context w1 c ≡ context w c →
      ranges MOST_PAGES (states_of (transferred_row w1 Move items (context w1 c).cell no_row) (transferred_rights Move items (context w1 c).cell (context w1 c).right all_write)) ≤ MOST_RANGES
  moved-few below w1 same =
      let fewer = fewer-ranges (λ p. moves items (Page p) row) right (states_of (transferred_row w1 Move items row no_row) (transferred_rights Move items row right all_write)) states g
      (λ p. moved-state (unwrap_or (mode items (Page p)) Copy) p (row (Page p)) (right p))
      (λ p on. ap (λ b. state_of (kind_of (cond b (cells.Common g) (row (Page p)))) (right p)) on) away MOST_PAGES in
      subst (λ (x : Context). ranges MOST_PAGES (states_of (transferred_row w1 Move items x.cell no_row) (transferred_rights Move items x.cell x.right all_write)) ≤ MOST_RANGES) (sym same) (omega (arith, fewer, below, shared-ranges))
