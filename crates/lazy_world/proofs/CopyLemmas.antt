-- Rows whose cells are all a place's own, and that a transfer gives as they are.
use Rattle.std.proofs.Common.{◌≡◌, ℕ, ◌<◌, ◌≤◌, ⊎_elim, refl, sym, ap, ◌∙◌, true, false, eqb, arith, length, not, [], Bool, List, Option}
use Rattle.std.specs.Prelude.{unwrap_or}
use Rattle.std.proofs.lemmas.Bool.{cases_lt}
use Rattle.std.proofs.lemmas.List.{nil_from_length}
use Rattle.std.proofs.lemmas.Nat.Bits.{bit_at-zero}
use Rattle.lwc_base.specs.declared.cell.Cell.{Cell}
use Rattle.lwc_base.specs.declared.cell.Cell.TheVariants as cells
use Rattle.fd_table.specs.Slots as slots
use Rattle.lwc_base.specs.declared.descriptor.Descriptor.{Descriptor}
use Rattle.lwc_base.specs.declared.item.Item.{Item}
use Rattle.lwc_base.specs.declared.item.Mode.{Mode}
use Rattle.lwc_base.specs.declared.item.Mode.TheVariants.{Copy, Share}
use Rattle.lwc_base.specs.Capabilities.{has_bit}
use Rattle.lwc_base.specs.Cells.{value_of}
use Rattle.lwc_base.specs.Keys.{ValueOf}
use Rattle.lwc_base.specs.Modes.{mode, mode_or_copy}
use Rattle.lwc_base.specs.Summaries.{is_empty}
use Rattle.lwc_base.specs.World.{World}
use Rattle.lwc_types.specs.declared.key.Key.{Key}
use Rattle.lwc_types.specs.declared.key.Key.TheVariants.{Page, Slot, Cred}
use Rattle.lwc_types.specs.declared.limits.TheConstants.{MOST_PAGES}
use Rattle.lwc_types.specs.declared.name.Name.{Name}
use Rattle.lwc_types.specs.declared.page.PageValue.{PageValue}
use Rattle.lwc_types.specs.declared.right.Right.{Right}
use Rattle.lazy_world.specs.Cells.{HasOwnPages, Row, is_nothing, is_own}
use Rattle.lazy_world.specs.Transfers.{transferred_cell, transferred_rights, transferred_row, taken_cell}
use Rattle.lazy_world.specs.Sound.{IsAllOwn, IsWithin}
use Rattle.lazy_world.specs.declared.transfer.Transfer.TheVariants.{Mark, Clone}

pub no-bit : (word n : ℕ) → eqb word 0 ≡ true → has_bit word n ≡ false
no-bit word n is = let none : word ≡ 0 = grind arith in ap (λ w. has_bit w n) none ∙ ap (λ b. eqb b 1) (bit_at-zero n)

own-nothing : (k : Key) (cell : Cell (ValueOf k)) → is_nothing k cell ≡ true → (k ≡ Cred → is_own cell ≡ true) → is_own cell ≡ true
own-nothing k (cells.Own value) none cred = refl
own-nothing (Page p) (cells.Common g) none cred = cc
own-nothing (Slot n) (cells.Common g) none cred = cc
own-nothing Cred (cells.Common g) none cred = cred refl

-- the pages of a row are its own that are so as far as there are pages, if it has nothing past them
pub own-pages : (pages : ℕ) (row : Row) → pages ≤ MOST_PAGES → IsWithin pages row → ((p : ℕ) → p < MOST_PAGES → is_own (row (Page p)) ≡ true) → HasOwnPages row
own-pages pages row few past own p =
    ⊎_elim (λ low. own p low) (λ high. own-nothing (Page p) (row (Page p)) (past (Page p) (omega (arith, few, high))) (λ is. cc)) (cases_lt p MOST_PAGES)

-- so is all of it, with slots and a credential of its own
pub all-own : (pages : ℕ) (row : Row) → pages ≤ MOST_PAGES → IsWithin pages row → ((n : ℕ) → n < 64 → is_own (row (Slot n)) ≡ true) → is_own (row Cred) ≡ true →
    ((p : ℕ) → p < MOST_PAGES → is_own (row (Page p)) ≡ true) → IsAllOwn row
all-own pages row few past slots uid own (Page p) = own-pages pages row few past own p
all-own pages row few past slots uid own (Slot n) =
    ⊎_elim (λ low. slots n low) (λ high. own-nothing (Slot n) (row (Slot n)) (past (Slot n) high) (λ is. cc)) (cases_lt n 64)
all-own pages row few past slots uid own Cred = uid

own-same : (w : World) (k : Key) (cell : Cell (ValueOf k)) → is_own cell ≡ true → cells.Own (value_of w k cell) ≡ cell
own-same w k (cells.Own value) own = refl
own-same w k (cells.Common g) own = cc

-- a copy of what is all own is the same
pub cloned-same : (w : World) (g : Name) (row old : Row) → IsAllOwn row → transferred_row w (Clone g) [] row old ≡ row
unfolding mode
cloned-same w g row old own = λ e k. own-same w k (row k) (own k) e

-- with the rights that there are
pub marked-rights : (g : Name) (items : List Item) (row : Row) (right old : ℕ → Right) → transferred_rights (Mark g) items row right old ≡ right
marked-rights g items row right old = λ e p. right p

pub cloned-rights : (g : Name) (row : Row) (right old : ℕ → Right) → transferred_rights (Clone g) [] row right old ≡ right
unfolding mode
cloned-rights g row right old = λ e p. right p

-- a copy of a page that is the row's own is the same
pub page-same : (w : World) (g : Name) (m : Option Mode) (q : ℕ) (cell old : Cell (Option PageValue)) → unwrap_or m Copy ≡ Copy → is_own cell ≡ true → transferred_cell w (Clone g) m (Page q) cell old ≡ cell
page-same w g m q cell old copies own = ap (λ n. taken_cell w g n (Page q) cell) copies ∙ own-same w (Page q) cell own

-- an empty slice of what is seen as a list
pub no-items : (found items : List Item) (b : Bool) → found ≡ items → b ≡ eqb (length found) 0 → b ≡ true → items ≡ []
no-items found items b is test yes_ = sym is ∙ nil_from_length found (let none : eqb (length found) 0 ≡ true = sym test ∙ yes_ in grind arith)

copied : (k : Key) → mode_or_copy [] k ≡ Share → ⊥
unfolding mode_or_copy mode
copied k is = cc

-- a filled slot of a place's own is not empty
pub own-filled : (w : World) (n : ℕ) (cell : Cell Descriptor) → slots.is_common cell ≡ false → slots.is_filled cell ≡ true → false ≡ is_empty (value_of w (Slot n) cell)
own-filled w n (cells.Own value) own filled = at (is_empty value) filled
  where
    at : (b : Bool) → not b ≡ true → false ≡ b
    at true is = cc
    at false is = refl
own-filled w n (cells.Common g) own filled = cc
