-- What ties the tables of places to their store.
use Rattle.std.specs.Prelude.{◌≡◌, ℕ, ◌*◌, ◌<◌, ◌≤◌, List, length}
use Rattle.lwc_types.specs.declared.limits.TheConstants.{MOST_SLOT_PLACES}
use Rattle.fd_table.specs.declared.table.Table.{Table}
use Rattle.fd_table.specs.Pools.{Held, count_of}
use Rattle.fd_table.specs.Tables.{IsTable, naming, table_at}

-- an object is held as often as entries name it, and there is one for each slot
pub record IsKept (pool : List Held) (tables : List Table) : Type 0 where
  pub exact : (o : ℕ) → count_of pool o ≡ naming tables o
  pub room : length pool ≡ 64 * length tables
  pub few : length tables ≤ MOST_SLOT_PLACES
  pub each : (i : ℕ) → i < length tables → IsTable pool (table_at tables i)
