-- A group is needed where a value of a place moves.
use Rattle.std.proofs.Common.{◌≡◌, ℕ, ◌<◌, ◌≤◌, ⊎_elim, arith, refl, sym, ap, ◌∙◌, true, false, List, Option, Some, None}
use Rattle.std.specs.Prelude.{unwrap_or}
use Rattle.std.proofs.lemmas.Bool.{cases_lt}
use Rattle.lwc_base.specs.declared.cell.Cell.{Cell}
use Rattle.lwc_base.specs.declared.cell.Cell.TheVariants as cells
use Rattle.lwc_base.specs.declared.item.Item.{Item}
use Rattle.lwc_base.specs.declared.item.Mode.TheVariants.{Copy, Share}
use Rattle.lwc_base.specs.Keys.{ValueOf}
use Rattle.lwc_base.specs.Modes.{IsKey, mode, mode_or_copy}
use Rattle.lwc_base.specs.Sharing.{has_own, is_moved, needs_group}
use Rattle.lwc_base.specs.World.{World, context}
use Rattle.lwc_types.specs.declared.key.Key.{Key}
use Rattle.lwc_types.specs.declared.key.Key.TheVariants.{Page, Slot, Cred}
use Rattle.lwc_types.specs.declared.limits.TheConstants.{MOST_PAGES}
use Rattle.lwc_types.specs.declared.name.Name.{Name}
use Rattle.lwc_types.specs.declared.page.PageValue.{PageValue}
use Rattle.lazy_world.specs.Cells.{Row, is_nothing}
use Rattle.lazy_world.specs.Transfers.{moves}
use Rattle.lazy_world.specs.Sound.{IsWithin}
use Rattle.lazy_world.proofs.MoveLemmas.{moves-own, moves-share, stays}
use Rattle.lwc_base.proofs.Needs.{needed-own, not_needed}

pub as_mode : (items : List Item) (k : Key) → mode_or_copy items k ≡ unwrap_or (mode items k) Copy
unfolding mode_or_copy
as_mode items k = refl

nothing_moves : (m : _) (p : ℕ) (cell : Cell (Option PageValue)) → is_moved m (Page p) cell ≡ true → is_nothing (Page p) cell ≡ true → ⊥
nothing_moves m p (cells.Own None) is none = let own = moves-own m (Page p) (cells.Own None) is in cc
nothing_moves m p (cells.Own (Some v)) is none = cc
nothing_moves m p (cells.Common g) is none = cc

module _ (w : World) (c : Name) (items : List Item) (row : Row) (here : (context w c).cell ≡ row) where
  pub needs-key : (k : Key) → IsKey w.size.pages k → moves items k row ≡ true → needs_group w c items ≡ true
  needs-key k inside is = at (row k) refl (moves-own (unwrap_or (mode items k) Copy) k (row k) is)
    where
      at : (cell : Cell (ValueOf k)) → row k ≡ cell → has_own k (row k) ≡ true → needs_group w c items ≡ true
      at (cells.Own v) is_cell own =
          needed-own w c items k v inside (as_mode items k ∙ moves-share (unwrap_or (mode items k) Copy) k (row k) is)
          (ap (λ (r : Row). r k) here ∙ is_cell) (ap (has_own k) (sym is_cell) ∙ own)
      at (cells.Common g) is_cell own = absurd (let e = ap (has_own k) (sym is_cell) ∙ own in cc)

  pub needs-page : IsWithin w.size.pages row → (p : ℕ) → moves items (Page p) row ≡ true → needs_group w c items ≡ true
  needs-page within p is =
      ⊎_elim
      (λ low. needs-key (Page p) low is)
      (λ high. absurd (nothing_moves (unwrap_or (mode items (Page p)) Copy) p (row (Page p)) is (within (Page p) high)))
      (cases_lt p w.size.pages)

  pub needs-none : w.size.pages ≤ MOST_PAGES → ((p : ℕ) → p < MOST_PAGES → moves items (Page p) row ≡ false) → ((n : ℕ) → n < 64 → moves items (Slot n) row ≡ false) → moves items Cred row ≡ false →
      needs_group w c items ≡ false
  needs-none few page slot cred = not_needed w c items at
    where
      still : (k : Key) → moves items k row ≡ false → mode_or_copy items k ≡ Share → has_own k ((context w c).cell k) ≡ false
      still k none share =
          ap (λ (r : Row). has_own k (r k)) here ∙ stays (unwrap_or (mode items k) Copy) k (row k) none (sym (as_mode items k) ∙ share)

      at : (k : Key) → IsKey w.size.pages k → mode_or_copy items k ≡ Share → has_own k ((context w c).cell k) ≡ false
      at (Page p) inside share = still (Page p) (page p (omega (arith, inside, few))) share
      at (Slot n) inside share = still (Slot n) (slot n inside) share
      at Cred inside share = still Cred cred share
