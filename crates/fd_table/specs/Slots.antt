-- What slots have, by place and by slot.
use Rattle.std.specs.Prelude.{ℕ, ◌==◌, if◌then◌else◌, Bool, true, false, not, List, Option, None, Some, slice_index_or}
use Rattle.lwc_base.specs.declared.cell.Cell.{Cell}
use Rattle.lwc_base.specs.declared.cell.Cell.TheVariants.{Own, Common}
use Rattle.lwc_base.specs.declared.descriptor.Descriptor.{Descriptor}
use Rattle.lwc_base.specs.declared.descriptor.Descriptor.TheVariants.{Ctx, Empty}
use Rattle.lwc_base.specs.declared.descriptor.Lent.{Lent}
use Rattle.lwc_base.specs.Lending.{descriptor_of}
use Rattle.lwc_base.specs.Summaries.{is_empty}
use Rattle.lwc_types.specs.declared.name.Name.{Name}

-- what a slot has: its cell, and a number for what the cell names
pub record Slot : Type 0 where
  pub cell : Cell Descriptor
  pub target : Option ℕ

-- the cell that a lent one stands for
abbrev pub cell_of : Cell Lent → Cell Descriptor
cell_of (Own value) = Own (descriptor_of value)
cell_of (Common g) = Common g

-- an empty slot of a place's own
abbrev pub empty_slot : Slot
empty_slot = record { cell = Own Empty; target = None }

-- the slots of a place where all are empty
abbrev pub no_slots : ℕ → Slot
no_slots n = empty_slot

-- the slots of a place
abbrev pub row_of : List (ℕ → Slot) → ℕ → ℕ → Slot
row_of slots i = slice_index_or slots i no_slots

-- the slots of a place with something else in one of them
abbrev pub put_slot : (ℕ → Slot) → ℕ → Slot → ℕ → Slot
put_slot row n slot m = if m == n then slot else row m

-- whether a cell is more than an empty slot of a place's own
abbrev pub is_filled : Cell Descriptor → Bool
is_filled (Own value) = not (is_empty value)
is_filled (Common g) = true

-- the context that a descriptor is of, if it is one of a context
abbrev pub context_of : Descriptor → Option Name
context_of (Ctx name cap) = Some name
context_of _ = None

-- the context that a place's own cell has a descriptor of, if it has one
abbrev pub context_in : Cell Descriptor → Option Name
context_in (Own value) = context_of value
context_in (Common g) = None

-- whether the value of a cell is a group's
abbrev pub is_common : Cell Descriptor → Bool
is_common (Own value) = false
is_common (Common g) = true
