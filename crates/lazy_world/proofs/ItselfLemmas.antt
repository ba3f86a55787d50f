-- A context that takes over from itself while its values move into a new group.
use Rattle.std.proofs.Common.{◌≡◌, ℕ, ◌≤◌, arith, refl, sym, ap, subst, ◌∙◌, true, List, Option, Some, None}
use Rattle.std.specs.Prelude.{unwrap_or}
use Rattle.std.specs.FinMap as fm
use Rattle.lwc_base.specs.declared.item.Item.{Item}
use Rattle.lwc_base.specs.declared.item.Mode.{Mode}
use Rattle.lwc_base.specs.declared.item.Mode.TheVariants.{Copy, Share, Unmap, CopyRead}
use Rattle.lwc_base.specs.declared.cell.Cell.{Cell}
use Rattle.lwc_base.specs.Fresh.{IsFresh}
use Rattle.lwc_base.specs.Modes.{IsSpec, mode}
use Rattle.lwc_types.specs.declared.key.Key.{Key}
use Rattle.lwc_types.specs.declared.key.Key.TheVariants.{Page}
use Rattle.lwc_types.specs.declared.limits.TheConstants.{MOST_PAGES, MOST_RANGES}
use Rattle.lwc_types.specs.declared.name.Name.{Name}
use Rattle.lwc_types.specs.declared.page.PageValue.{PageValue}
use Rattle.lwc_types.specs.declared.right.Right.{Right}
use Rattle.lwc_base.specs.Overlay as base_overlay
use Rattle.lwc_base.specs.Overlay.{overlaid_cell, overlay, ranges_after_overlay, with_overlay}
use Rattle.lwc_base.specs.Ranges as base
use Rattle.lwc_base.specs.Ranges.{is_page, ranges_of}
use Rattle.lwc_base.specs.Sharing.{is_moved, moved_values, needs_group, share, shared_cell}
use Rattle.lwc_base.specs.World.{World, Context, add_group, change_context, change_group, changed_context, context, group, is_live, new_group, next_group}
use Rattle.range_map.specs.Kinds.{kind_of, ranges, state_of}
use Rattle.range_map.specs.declared.segment.PageState.{PageState}
use Rattle.cow_space.specs.Cells.{all_write}
use Rattle.lazy_world.specs.Cells.{Row, no_row, states_of}
use Rattle.lazy_world.specs.Followed.{followed, with_transferred}
use Rattle.lazy_world.specs.Transfers.{moves, overlaid_right, transferred_cell, transferred_right, transferred_rights, transferred_row}
use Rattle.lazy_world.specs.Sound.{IsWithin}
use Rattle.lazy_world.specs.declared.transfer.Transfer.TheVariants.{Mark, Move, Overlay}
use Rattle.lazy_world.proofs.AfterLemmas.{no-name, overlaid-shared, right-overlaid, self-ranges}
use Rattle.lazy_world.proofs.FollowLemmas.{change-agree}
use Rattle.lazy_world.proofs.MapLemmas.{no_state}
use Rattle.lazy_world.proofs.MovedLemmas.{common-state, moved-state}
use Rattle.lazy_world.proofs.PastLemmas.{transferred-within}
use Rattle.lazy_world.proofs.RenameLemmas.{transferred-away, transferred-new}
use Rattle.lazy_world.proofs.ShareLemmas.{added-context, fewer-ranges, followed-is, get-same, insert-twice}
use Rattle.lwc_base.proofs.Facts.{changes}
use Rattle.range_map.proofs.Ranges.{ranges_of_context}

-- two changes of a context, one after the other
change_twice : (w : World) (c : Name) (f h : Context → Context) → change_context (change_context w c f) c h ≡ change_context w c (λ x. h (f x))
unfolding change_context
change_twice w c f h = at (fm.get w.contexts c) refl
  where
    at : (o : Option Context) → fm.get w.contexts c ≡ o →
        changed_context (changed_context w c f o) c h (fm.get (changed_context w c f o).contexts c) ≡ changed_context w c (λ x. h (f x)) o
    at None is = ap (changed_context w c h) is
    at (Some x) is =
        ap (changed_context (changed_context w c f (Some x)) c h) (get-same w.contexts c (f x))
        ∙ ap (λ m. record w { contexts = m }) (insert-twice w.contexts c (f x) (h (f x)))

-- what moves is taken over with its right
right_moved : (m : Option Mode) (p : ℕ) (cell : Cell (Option PageValue)) (right : Right) → is_moved (unwrap_or m Copy) (Page p) cell ≡ true → overlaid_right m (is_page cell) right right ≡ right
right_moved None p cell right is = refl
right_moved (Some Copy) p cell right is = refl
right_moved (Some Share) p cell right is = refl
right_moved (Some Unmap) p cell right is = absurd (let e = is in cc)
right_moved (Some CopyRead) p cell right is = absurd (let e = is in cc)

module _ (w : World) (fresh : IsFresh w) (items : List Item) (spec : IsSpec w.size.pages items)
    (c : Name) (live : is_live w c ≡ true) (job : ℕ) where
  abbrev g : Name
  g = next_group w job

  abbrev s : World
  s = share w c job items

  abbrev row : Row
  row = (context w c).cell

  abbrev m : Key → Mode
  m k = unwrap_or (mode items k) Copy

  stays : (k : Key) (o : Option Mode) → mode items k ≡ o → overlaid_cell s c k o (row k) ≡ overlaid_cell s c k o (shared_cell g (m k) k (row k))
  stays k None is = sym (ap (λ o. shared_cell g (unwrap_or o Copy) k (row k)) is)
  stays k (Some n) is = refl

  module _ (u : World) (same : context u c ≡ context w c) (shares : followed u (Mark g) items c c ≡ s) where
    abbrev mark : Context → Context
    mark = with_transferred u (Mark g) items (context u c)

    groups : (h : Name) → (h ≡ g → ⊥) → group u h ≡ group s h
    groups h other = sym ((changes.context_changed u c mark).groups h) ∙ ap (λ n. group n h) shares

    each : (k : Key) → transferred_cell u (Overlay g) (mode items k) k ((context u c).cell k) ((context u c).cell k)
        ≡ overlaid_cell s c k (mode items k) (shared_cell g (m k) k ((context u c).cell k))
    each k =
        ap (λ (x : Context). transferred_cell u (Overlay g) (mode items k) k (x.cell k) (x.cell k)) same
        ∙ overlaid-shared w fresh items spec c live job u groups k (row k) (mode items k) refl
        ∙ stays k (mode items k) refl
        ∙ ap (λ (x : Context). overlaid_cell s c k (mode items k) (shared_cell g (m k) k (x.cell k))) (sym same)

    each_right : (p : ℕ) → transferred_right (Overlay g) (mode items (Page p)) p ((context u c).cell (Page p)) ((context u c).right p) ((context u c).right p)
        ≡ base_overlay.overlaid_right s c p (mode items (Page p)) ((context u c).right p)
    each_right p =
        ap (λ (x : Context). transferred_right (Overlay g) (mode items (Page p)) p (x.cell (Page p)) (x.right p) (x.right p)) same
        ∙ right-overlaid w fresh items spec c live job p ((context w c).right p) (mode items (Page p))
        ∙ sym (ap (λ (x : Context). base_overlay.overlaid_right s c p (mode items (Page p)) (x.right p)) same)

    at_once : followed u (Overlay g) items c c ≡ overlay w c c job items
    unfolding overlay
    at_once =
        change-agree u c (with_transferred u (Overlay g) items (context u c)) (λ x. with_overlay s c items (mark x))
        (λ e. record (context u c) { cell = λ k. each k e; right = λ p. each_right p e })
        ∙ sym (change_twice u c mark (with_overlay s c items))
        ∙ ap (λ n. change_context n c (with_overlay s c items)) shares

  -- what a context takes over from itself, once the new group has what moves
  pub itself-is : needs_group w c items ≡ true → (h : Name) (w1 w2 : World) → h ≡ g → w1 ≡ add_group w job new_group → w2 ≡ change_group w1 h (λ x. moved_values items (context w1 c)) →
      followed w2 (Overlay h) items c c ≡ overlay w c c job items
  itself-is needs h w1 w2 named first second =
      ap (λ n. followed w2 (Overlay n) items c c) named
      ∙ at_once w2
      (ap (λ v. context v c) second ∙ (changes.group_changed w1 h (λ x. moved_values items (context w1 c))).contexts c ∙ added-context w c job items w1 first)
      (ap (λ n. followed w2 (Mark n) items c c) (sym named) ∙ followed-is w c job items needs h w1 w2 named first second)

  -- the ranges of the new group are no more than those of the context afterwards
  module _ (few : w.size.pages ≤ MOST_PAGES) (within : IsWithin w.size.pages (context w c).cell) where
    abbrev transferred : Row
    transferred = transferred_row w (Overlay g) items row row

    abbrev right : ℕ → Right
    right = (context w c).right

    abbrev states : ℕ → Option PageState
    states = states_of transferred (transferred_rights (Overlay g) items row right right)

    state_ranges : ranges_of (followed w (Overlay g) items c c) c ≡ ranges MOST_PAGES states
    unfolding ranges_of
    state_ranges =
        let changed = changes.context_changed w c (with_transferred w (Overlay g) items (context w c)) in
        ap (λ n. base.ranges n.pages (context (followed w (Overlay g) items c c) c)) changed.names.size
        ∙ ap (base.ranges w.size.pages) (changed.changed live)
        ∙ ranges_of_context w.size.pages (with_transferred w (Overlay g) items (context w c) (context w c)) states few (λ p low. refl)
        (λ p past low. no_state p (transferred (Page p)) (transferred_rights (Overlay g) items row right right p) (transferred-within w w.size.pages items spec (Overlay g) row row within within (Page p) past))

    pub itself-few : (ranges_after_overlay w c c job items).1 ≤ MOST_RANGES → (w1 : World) → context w1 c ≡ context w c →
        ranges MOST_PAGES (states_of (transferred_row w1 Move items (context w1 c).cell no_row) (transferred_rights Move items (context w1 c).cell (context w1 c).right all_write)) ≤ MOST_RANGES
    itself-few below w1 same =
        let fewer = fewer-ranges (λ p. moves items (Page p) row) right (states_of (transferred_row w1 Move items row no_row) (transferred_rights Move items row right all_write)) states g
        (λ p. moved-state (unwrap_or (mode items (Page p)) Copy) p (row (Page p)) (right p))
        (λ p on e. state_of (kind_of (transferred-new w (Page p) (row (Page p)) (row (Page p)) g (Overlay g) (mode items (Page p)) on e)) (right_moved (mode items (Page p)) p (row (Page p)) (right p) on e))
        (λ p r off is. transferred-away w (Page p) (row (Page p)) (row (Page p)) g (no-name w fresh items spec job c (Page p)) (no-name w fresh items spec job c (Page p)) (Overlay g) (mode items (Page p)) off
        (common-state (transferred (Page p)) (transferred_rights (Overlay g) items row right right p) r g is)) MOST_PAGES in
        let after = sym state_ranges ∙ self-ranges w fresh items spec c live job job in
        subst (λ (x : Context). ranges MOST_PAGES (states_of (transferred_row w1 Move items x.cell no_row) (transferred_rights Move items x.cell x.right all_write)) ≤ MOST_RANGES) (sym same) (omega (arith, fewer, below, after))
