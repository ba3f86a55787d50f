-- The slot that a filling stands for.
use Rattle.std.specs.Prelude.{ℕ, List}
use Rattle.lwc_base.specs.declared.descriptor.Cap.{Cap}
use Rattle.pool_base.specs.Paired.{paired}
use Rattle.fd_table.specs.declared.filling.Filling.{Filling}
use Rattle.fd_table.specs.declared.fillings.Stored.{Stored}
use Rattle.fd_table.specs.Slots.{Slot, cell_of}
use Rattle.fd_table.specs.Stored.{cell_in}

-- the slot that a filling stands for
abbrev pub slot_of : Filling → Slot
slot_of filling = record { cell = cell_of filling.cell; target = filling.target }

-- the slot that a stored filling stands for, with the words beside it
abbrev pub slot_in : Stored → Cap → Slot
slot_in stored words = record { cell = cell_in stored.cell words; target = stored.target }

-- the slots of stored fillings, and for how many there is memory
pub record Stock : Type 0 where
  pub slots : List Slot
  pub room : ℕ

-- the slots of stored fillings, with the words beside each
abbrev pub slots_in : List Stored → List Cap → List Slot
slots_in stored words = paired slot_in stored words
