-- What the parts of places keep.
use Rattle.std.specs.Prelude.{◌≡◌, ℕ, ◌+◌, ◌*◌, ◌%◌, List, Option, length}
use Rattle.std.specs.Option.{option_map}
use Rattle.lwc_base.specs.declared.cell.Cell.{Cell}
use Rattle.lwc_base.specs.declared.descriptor.Descriptor.{Descriptor}
use Rattle.lwc_types.specs.declared.name.Name.{Name}
use Rattle.fd_table.specs.declared.slots.TheConstants.{NUMBERS}
use Rattle.fd_table.specs.Slots.{Slot, context_in, row_of}
use Rattle.cow_space.specs.Cells.{Place}

-- the number of a name; other names may have it too
unfoldable pub number_of : Name → ℕ
number_of name = (name.job * 4096 + name.k) % NUMBERS

-- the number of the context that a cell has a descriptor of, if it has one
abbrev pub target_of : Cell Descriptor → Option ℕ
target_of cell = option_map number_of (context_in cell)

-- a slot keeps the number of the context that it names
abbrev pub IsNumbered : Slot → Type 0
IsNumbered slot = slot.target ≡ target_of slot.cell

-- each place has pages, slots and a credential, and each slot keeps the number of the context that it names
pub record IsKept (pages : List Place) (slots : List (ℕ → Slot)) (uids : List (Cell ℕ)) : Type 0 where
  pub slot_count : length slots ≡ length pages
  pub uid_count : length uids ≡ length pages
  pub targets : (i n : ℕ) → IsNumbered (row_of slots i n)
