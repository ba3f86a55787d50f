-- The tables of places over a pool, and how often their entries name an object.
use Rattle.std.specs.Prelude.{◌≡◌, ℕ, ◌+◌, ◌-◌, ◌<◌, ◌==◌, if◌then◌else◌, List, count_by, length, map, nat_lt}
use Rattle.std.specs.Prelude.{replicate, slice_index, slice_index_or, sum_by}
use Rattle.lwc_base.specs.Capabilities.{has_bit}
use Rattle.fd_table.specs.declared.table.Table.{Table}
use Rattle.fd_table.specs.Pools.{Held, slot_at}
use Rattle.fd_table.specs.Slots.{Slot, empty_slot, is_common, is_filled}

-- how many of these entries name an object
unfoldable pub times : ℕ → List ℕ → ℕ
times o entries = count_by (λ entry. entry == o + 1) entries

-- how often an object is named by the entries of tables
unfoldable pub naming : List Table → ℕ → ℕ
naming tables o = sum_by (λ table. times o table.entries) tables

-- the slot that an entry stands for
abbrev pub entry_slot : List Held → ℕ → Slot
entry_slot pool entry = if entry == 0 then empty_slot else slot_at pool (entry - 1)

-- the slots that entries stand for
unfoldable pub slots_of : List Held → List ℕ → ℕ → Slot
slots_of pool entries n = entry_slot pool (slice_index entries n)

-- the slots of each table
unfoldable pub rows : List Held → List Table → List (ℕ → Slot)
rows pool tables = map (λ table. slots_of pool table.entries) tables

-- the table past the last
abbrev pub no_table : Table
no_table = record { filled = 0; common = 0; entries = replicate 64 0 }

-- the table of a place
abbrev pub table_at : List Table → ℕ → Table
table_at tables i = slice_index_or tables i no_table

-- a table has 64 entries, and its bits say which slots are filled, which are those with an object, and which
-- are common
pub record IsTable (pool : List Held) (table : Table) : Type 0 where
  pub long : length table.entries ≡ 64
  pub filled : (n : ℕ) → n < 64 → has_bit table.filled n ≡ nat_lt 0 (slice_index table.entries n)
  pub common : (n : ℕ) → n < 64 → has_bit table.common n ≡ is_common (slots_of pool table.entries n).cell
  pub real : (n : ℕ) → is_filled (slots_of pool table.entries n).cell ≡ nat_lt 0 (slice_index table.entries n)
