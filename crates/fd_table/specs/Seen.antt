-- What places over a store are seen as.
use Rattle.std.specs.Prelude.{ℕ, List}
use Rattle.fd_table.specs.declared.slots.Slots.{Slots}
use Rattle.fd_table.specs.Slots.{Slot}
use Rattle.fd_table.specs.Tables.{rows}

-- the slots of the places
unfoldable pub slots : Slots → List (ℕ → Slot)
slots w = rows w.objects.pool w.tables
