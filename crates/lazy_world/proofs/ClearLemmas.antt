-- A place from which all is taken.
use Rattle.std.proofs.Common.{◌≡◌, ◌≢◌, ℕ, ◌<◌, List, length, set, ap, refl, ◌∙◌, get_or-set_other}
use Rattle.std.proofs.lemmas.List.{get_or-set_same}
use Rattle.lwc_base.specs.declared.cell.Cell.{Cell}
use Rattle.lwc_base.specs.declared.cell.Cell.TheVariants.{Own}
use Rattle.lwc_base.specs.declared.descriptor.Descriptor.TheVariants.{Empty}
use Rattle.lwc_types.specs.declared.key.Key.TheVariants.{Page, Slot, Cred}
use Rattle.lwc_types.specs.declared.key.TheConstants.{NOBODY}
use Rattle.fd_table.specs.Slots as slots
use Rattle.cow_space.specs.Cells.{Place, no_pages}
use Rattle.lazy_world.specs.Cells.{Row, no_row, put_row, rows_of}
use Rattle.lazy_world.specs.Kept.{IsNumbered, target_of}
use Rattle.lazy_world.specs.Origins.{with_pages}
use Rattle.lazy_world.specs.declared.pieces.PageOrigins.TheVariants.{AllOf}
use Rattle.lazy_world.proofs.PlaceLemmas.{choose, pass, same_rows}

module _ (pages : List Place) (table : List (ℕ → slots.Slot)) (uids : List (Cell ℕ)) (i : ℕ) where
  -- nothing is at the place, and all others are as they were
  pub rows-cleared : i < length pages → i < length table → i < length uids →
      rows_of (set pages i no_pages) (set table i slots.no_slots) (set uids i (Own NOBODY)) ≡ put_row (rows_of pages table uids) i no_row
  unfolding rows_of
  rows-cleared in_pages in_table in_uids = same_rows (rows_of pages table uids) _ i no_row here others
    where
      here : (k : _) → rows_of (set pages i no_pages) (set table i slots.no_slots) (set uids i (Own NOBODY)) i k ≡ no_row k
      here (Page p) = ap (λ (place : Place). place p) (get_or-set_same pages i no_pages no_pages in_pages)
      here (Slot n) = ap (λ (row : ℕ → slots.Slot). (row n).cell) (get_or-set_same table i slots.no_slots slots.no_slots in_table)
      here Cred = get_or-set_same uids i (Own NOBODY) (Own NOBODY) in_uids

      others : (j : ℕ) → (j ≡ i → ⊥) → (k : _) → rows_of (set pages i no_pages) (set table i slots.no_slots) (set uids i (Own NOBODY)) j k ≡ rows_of pages table uids j k
      others j other (Page p) = ap (λ (place : Place). place p) (get_or-set_other pages i j no_pages no_pages other)
      others j other (Slot n) = ap (λ (row : ℕ → slots.Slot). (row n).cell) (get_or-set_other table i j slots.no_slots slots.no_slots other)
      others j other Cred = get_or-set_other uids i j (Own NOBODY) (Own NOBODY) other

  -- the place has all that another one has, once it has its pages, and all others are as they were
  pub rows-copied : (old : ℕ → Row) (from : ℕ) (uid : Cell ℕ) → i < length table → i < length uids → from ≢ i → uid ≡ old from Cred →
      rows_of pages table uids ≡ put_row old i (with_pages old (AllOf from) (old i)) →
      rows_of pages (set table i (slots.row_of table from)) (set uids i uid) ≡ put_row old i (old from)
  unfolding rows_of
  rows-copied old from uid in_table in_uids apart is_uid is = same_rows old new i (old from) here others
    where
      new : ℕ → Row
      new = rows_of pages (set table i (slots.row_of table from)) (set uids i uid)

      was : (j : ℕ) → (j ≡ i → ⊥) → (k : _) → rows_of pages table uids j k ≡ old j k
      was j other k = ap (λ (rows : ℕ → Row). rows j k) is ∙ ap (λ (row : Row). row k) (pass i j (with_pages old (AllOf from) (old i)) (old j) other)

      here : (k : _) → new i k ≡ old from k
      here (Page p) = ap (λ (rows : ℕ → Row). rows i (Page p)) is ∙ ap (λ (row : Row). row (Page p)) (choose i i (with_pages old (AllOf from) (old i)) (old i) refl)
      here (Slot n) = ap (λ (row : ℕ → slots.Slot). (row n).cell) (get_or-set_same table i (slots.row_of table from) slots.no_slots in_table) ∙ was from apart (Slot n)
      here Cred = get_or-set_same uids i uid (Own NOBODY) in_uids ∙ is_uid

      others : (j : ℕ) → (j ≡ i → ⊥) → (k : _) → new j k ≡ old j k
      others j other (Page p) = was j other (Page p)
      others j other (Slot n) = ap (λ (row : ℕ → slots.Slot). (row n).cell) (get_or-set_other table i j (slots.row_of table from) slots.no_slots other) ∙ was j other (Slot n)
      others j other Cred = get_or-set_other uids i j uid (Own NOBODY) other ∙ was j other Cred

-- a place without slots has none that are numbered
pub no-slots : (table : List (ℕ → slots.Slot)) (i : ℕ) → ((m : ℕ) → IsNumbered (slots.row_of table i m)) → ((m : ℕ) → (slots.row_of table i m).cell ≡ Own Empty) → slots.row_of table i ≡ slots.no_slots
no-slots table i numbered empty = λ e m. at (slots.row_of table i m) (numbered m) (empty m) e
  where
    at : (slot : slots.Slot) → IsNumbered slot → slot.cell ≡ Own Empty → slot ≡ slots.empty_slot
    at slot number is = λ e. record { cell = is e; target = (number ∙ ap target_of is) e }
