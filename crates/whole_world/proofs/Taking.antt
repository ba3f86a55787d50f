-- Elements that a list takes out of another one, and cells that a row takes out of another one.
use Rattle.std.proofs.Common.{◌≡◌, ℕ, ◌<◌, ◌≤◌, Bool, cond, List, Option, None, get_or}
use Rattle.lwc_base.specs.declared.cell.Cell.{Cell}
use Rattle.lwc_base.specs.declared.cell.Cell.TheVariants.{Own}
use Rattle.lwc_base.specs.declared.descriptor.Descriptor.{Descriptor}
use Rattle.lwc_base.specs.declared.descriptor.Descriptor.TheVariants.{Empty}
use Rattle.lwc_base.specs.declared.item.Item.{Item}
use Rattle.lwc_base.specs.Capabilities.{is_named}
use Rattle.lwc_types.specs.declared.key.Key.{Key}
use Rattle.lwc_types.specs.declared.key.Key.TheVariants.{Page, Slot, Cred}
use Rattle.lwc_types.specs.declared.page.PageValue.{PageValue}
use Rattle.lwc_types.specs.declared.right.Right.{Right}
use Rattle.lwc_types.specs.declared.right.Right.TheVariants.{Write}
use Rattle.whole_world.specs.declared.context_row.ContextRow.{ContextRow}
use Rattle.whole_world.specs.Rows.{cell_of, context_of}
use Rattle.whole_world.specs.Sharing.{with_taken}

-- below a number, the elements at the places that pass a test have been taken; the other ones, and all from there on, are as they were
pub record IsTakenBelow {A : Type 0} (test : ℕ → Bool) (i : ℕ) (mine theirs new rest : List A) : Type 0 where
  pub below : (k : ℕ) (d : A) → k < i → get_or new k d ≡ cond (test k) (get_or theirs k d) (get_or mine k d)
  pub above : (k : ℕ) (d : A) → i ≤ k → get_or new k d ≡ get_or mine k d
  pub left : (k : ℕ) (d : A) → i ≤ k → get_or rest k d ≡ get_or theirs k d

-- a row that takes the cells under the keys that items name
pub context-taken : (mine other new : ContextRow) (items : List Item) →
    ((n : ℕ) (d : Cell (Option PageValue)) → get_or new.pages.items n d ≡ cond (is_named items (Page n)) (get_or other.pages.items n d) (get_or mine.pages.items n d)) →
    ((n : ℕ) (d : Cell Descriptor) → get_or new.slots.items n d ≡ cond (is_named items (Slot n)) (get_or other.slots.items n d) (get_or mine.slots.items n d)) →
    ((n : ℕ) (d : Right) → get_or new.rights.items n d ≡ cond (is_named items (Page n)) (get_or other.rights.items n d) (get_or mine.rights.items n d)) →
    new.uid ≡ cond (is_named items Cred) other.uid mine.uid → new.entry ≡ mine.entry → new.saved ≡ mine.saved →
    context_of new ≡ with_taken (is_named items) (context_of other) (context_of mine)
unfolding context_of cell_of
context-taken mine other new items pages slots rights uid same_entry same_saved =
    let at : (k : Key) → cell_of new k ≡ cond (is_named items k) (cell_of other k) (cell_of mine k) =
    λ k. elim k as (λ k. cell_of new k ≡ cond (is_named items k) (cell_of other k) (cell_of mine k)) [
      | Page p ↦ pages p (Own None)
      | Slot n ↦ slots n (Own Empty)
      | Cred ↦ uid
    ] in
    λ i. record { cell = λ k. at k i; right = λ p. rights p Write i; entry = same_entry i; saved = λ t. get_or (same_saved i) t None }
