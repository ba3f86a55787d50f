-- What a new context gets of the one that it is made from: values that are shared, copied and left out.
use Rattle.std.specs.Prelude.{ℕ, ◌||◌, if◌then◌else◌, Bool, false, List, None}
use Rattle.std.specs.List.{list_any, range_with_len}
use Rattle.lwc_base.specs.declared.cell.Cell.{Cell}
use Rattle.lwc_base.specs.declared.cell.Cell.TheVariants.{Own, Common}
use Rattle.lwc_base.specs.declared.item.Item.{Item}
use Rattle.lwc_base.specs.declared.item.Mode.{Mode}
use Rattle.lwc_base.specs.declared.item.Mode.TheVariants.{Copy, Share, Unmap, CopyRead}
use Rattle.lwc_base.specs.Cells.{value_at}
use Rattle.lwc_base.specs.Keys.{ValueOf, nothing, is_there}
use Rattle.lwc_base.specs.Modes.{mode_or_copy}
use Rattle.lwc_base.specs.Ranges.{has_page, ranges, ranges_of}
use Rattle.lwc_base.specs.Rights.{read_right, right_at}
use Rattle.lwc_base.specs.World.{World, Context, Group, context, change_context, add_context, add_group, next_group}
use Rattle.lwc_types.specs.declared.key.TheConstants.{SLOTS}
use Rattle.lwc_types.specs.declared.key.Key.{Key}
use Rattle.lwc_types.specs.declared.key.Key.TheVariants.{Page, Slot, Cred}
use Rattle.lwc_types.specs.declared.name.Name.{Name}
use Rattle.lwc_types.specs.declared.regs.Regs.{Regs}
use Rattle.lwc_types.specs.declared.right.Right.{Right}
use Rattle.lwc_types.specs.declared.right.Right.TheVariants.{Write}

-- whether a cell is the context's own and a value is there
abbrev pub has_own : (k : Key) → Cell (ValueOf k) → Bool
has_own k (Own value) = is_there k value
has_own k (Common g) = false

-- whether the value of a cell moves into a group: under share it does, where it is the context's own
abbrev pub is_moved : Mode → (k : Key) → Cell (ValueOf k) → Bool
is_moved Copy k cell = false
is_moved Share k cell = has_own k cell
is_moved Unmap k cell = false
is_moved CopyRead k cell = false

-- the value that a group gets under a key: the context's own under share, and else nothing
abbrev pub moved_value : Mode → (k : Key) → Cell (ValueOf k) → ValueOf k
moved_value Share k (Own value) = value
moved_value _ k _ = nothing k

-- the group of the values that items move out of a context
unfoldable pub moved_values : List Item → Context → Group
moved_values items x = record { value = λ k. moved_value (mode_or_copy items k) k (x.cell k) }

-- whether a test holds of a key of a context with this number of pages
unfoldable pub any_key : ℕ → (Key → Bool) → Bool
any_key pages test =
    list_any (λ p. test (Page p)) (range_with_len 0 pages)
    || list_any (λ n. test (Slot n)) (range_with_len 0 SLOTS) || test Cred

-- whether items need a group: they move a value out of the context
unfoldable pub needs_group : World → Name → List Item → Bool
needs_group w c items = any_key w.size.pages (λ k. is_moved (mode_or_copy items k) k ((context w c).cell k))

-- a cell after sharing: common of the group where its value moved, and else as it was
abbrev pub shared_cell : Name → Mode → (k : Key) → Cell (ValueOf k) → Cell (ValueOf k)
shared_cell g mode k cell = if is_moved mode k cell then Common g else cell

-- a context whose values have moved into a group
unfoldable pub with_shared : Name → List Item → Context → Context
with_shared g items x = record x { cell = λ k. shared_cell g (mode_or_copy items k) k (x.cell k) }

-- a context's own values under share move into one new group of the job, if there are any
unfoldable pub share : World → Name → ℕ → List Item → World
share w c job items =
    if needs_group w c items
    then add_group (change_context w c (with_shared (next_group w job) items)) job
    (moved_values items (context w c))
    else w

-- a cell of a new context by its mode: a copy of the value, the same cell, or nothing
abbrev pub cloned_cell : World → Name → (k : Key) → Mode → Cell (ValueOf k)
cloned_cell w c k Copy = Own (value_at w c k)
cloned_cell w c k Share = (context w c).cell k
cloned_cell w c k Unmap = Own (nothing k)
cloned_cell w c k CopyRead = Own (value_at w c k)

-- the right of a page of a new context by its mode: the same, or Read where it is copied to be read alone
abbrev pub cloned_right : World → Name → ℕ → Mode → Right
cloned_right w c p Copy = right_at w c p
cloned_right w c p Share = right_at w c p
cloned_right w c p Unmap = Write
cloned_right w c p CopyRead = read_right (has_page (context w c) p)

-- a new context by a list of items, with the registers that it begins with; it has no saved registers
unfoldable pub cloned_context : World → Name → List Item → Regs → Context
cloned_context w c items entry = record {
  cell = λ k. cloned_cell w c k (mode_or_copy items k);
  right = λ p. cloned_right w c p (mode_or_copy items (Page p));
  entry = entry;
  saved = λ t. None;
}

-- a job makes a new context from another: first the values under share move, then the new context is added
unfoldable pub clone_context : World → Name → ℕ → List Item → Regs → World
clone_context w c job items entry =
    let s = share w c job items in add_context s job (cloned_context s c items entry)

-- the number of ranges of a context, and of the new one, after a job has made it
unfoldable pub ranges_after_clone : World → Name → ℕ → List Item → ℕ × ℕ
ranges_after_clone w c job items =
    let s = share w c job items in
    (ranges_of s c, ranges s.size.pages (cloned_context s c items (context s c).entry))
