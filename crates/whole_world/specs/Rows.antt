-- What the rows of contexts and of groups stand for.
use Rattle.std.specs.Prelude.{ℕ, ◌==◌, if◌then◌else◌, Bool, None, Some, slice_index_or}
use Rattle.lwc_base.specs.declared.cell.Cell.{Cell}
use Rattle.lwc_base.specs.declared.cell.Cell.TheVariants.{Own}
use Rattle.lwc_base.specs.declared.descriptor.Descriptor.TheVariants.{Empty}
use Rattle.lwc_base.specs.Keys.{ValueOf}
use Rattle.lwc_base.specs.Mapping as mapping
use Rattle.lwc_base.specs.World.{Context, Group}
use Rattle.lwc_types.specs.declared.key.Key.{Key}
use Rattle.lwc_types.specs.declared.key.Key.TheVariants.{Page, Slot, Cred}
use Rattle.lwc_types.specs.declared.page.PageValue.TheVariants.{Zero}
use Rattle.lwc_types.specs.declared.right.Right.{Right}
use Rattle.lwc_types.specs.declared.right.Right.TheVariants.{Write}
use Rattle.whole_world.specs.declared.context_row.ContextRow.{ContextRow}
use Rattle.whole_world.specs.declared.group_row.GroupRow.{GroupRow}

-- the cell under a key of a context; pages past the last one are absent, and slots past the last one empty
unfoldable pub cell_of : ContextRow → (k : Key) → Cell (ValueOf k)
cell_of row (Page p) = slice_index_or row.pages.items p (Own None)
cell_of row (Slot n) = slice_index_or row.slots.items n (Own Empty)
cell_of row Cred = row.uid

-- the context of a row; pages past the last one have the right Write
unfoldable pub context_of : ContextRow → Context
context_of row = record {
  cell = cell_of row;
  right = λ p. slice_index_or row.rights.items p Write;
  entry = row.entry;
  saved = λ t. slice_index_or row.saved t None;
}

-- the value under a key of a group
unfoldable pub value_of : GroupRow → (k : Key) → ValueOf k
value_of row (Page p) = slice_index_or row.pages.items p None
value_of row (Slot n) = slice_index_or row.slots.items n Empty
value_of row Cred = row.uid

-- the group of a row
unfoldable pub group_of : GroupRow → Group
group_of row = record { value = value_of row }

-- a context with its own pages of zeros in a range, or none there, that have the right Write
abbrev pub with_pages : ℕ → ℕ → Bool → Context → Context
with_pages from to present = mapping.with_pages from to (if present then Some Zero else None)

-- a context with another right of a page
abbrev pub with_right : ℕ → Right → Context → Context
with_right p right x = record x { right = λ q. if q == p then right else x.right q }
