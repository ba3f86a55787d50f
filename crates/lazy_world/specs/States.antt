-- The world of what is at places.
use Rattle.std.specs.Prelude.{ℕ, ◌+◌, List, [], None, slice_index_or}
use Rattle.lwc_base.specs.declared.cell.Cell.{Cell}
use Rattle.lwc_base.specs.declared.cell.Cell.TheVariants.{Own, Common}
use Rattle.lwc_base.specs.Keys.{ValueOf, nothing}
use Rattle.lwc_base.specs.World.{Context, Group, World, nothing_counted}
use Rattle.lwc_types.specs.declared.key.Key.{Key}
use Rattle.lwc_types.specs.declared.counters.Counters.{Counters}
use Rattle.lwc_types.specs.declared.right.Right.{Right}
use Rattle.lwc_types.specs.declared.size.WorldSize.{WorldSize}
use Rattle.lwc_types.specs.Registers.{fresh_registers}
use Rattle.ctx_table.specs.NameTables.{NameTable}
use Rattle.lazy_world.specs.Registers.{KeptRegisters}
use Rattle.lazy_world.specs.Cells.{Row}
use Rattle.lazy_world.specs.Mapped.{mapped}

-- the parts of a world: what is at each place, and the place of each name; the groups' places follow those of
-- contexts
pub record Parts : Type 0 where
  pub size : WorldSize
  pub rows : ℕ → Row
  pub rights : ℕ → ℕ → Right
  pub registers : List KeptRegisters
  pub contexts : NameTable
  pub groups : NameTable
  pub counts : List Counters

-- the registers of a context before it has any
abbrev pub no_registers : KeptRegisters
no_registers = record { entry = fresh_registers 0; saved = [] }

-- the context of these cells, rights and registers
abbrev pub context_of : Row → (ℕ → Right) → KeptRegisters → Context
context_of row right registers = record {
  cell = row;
  right = right;
  entry = registers.entry;
  saved = λ t. slice_index_or registers.saved t None;
}

-- the value of a cell that is a group's own
abbrev pub held : (k : Key) → Cell (ValueOf k) → ValueOf k
held k (Own value) = value
held k (Common g) = nothing k

-- the group of these cells
abbrev pub group_of : Row → Group
group_of row = record { value = λ k. held k (row k) }

-- the registers at a place
abbrev pub registers_at : List KeptRegisters → ℕ → KeptRegisters
registers_at registers i = slice_index_or registers i no_registers

-- the context at a place of contexts
abbrev pub context_at : Parts → ℕ → Context
context_at s i = context_of (s.rows i) (s.rights i) (registers_at s.registers i)

-- the group at a place of groups
abbrev pub group_at : Parts → ℕ → Group
group_at s j = group_of (s.rows (s.size.contexts + j))

-- the world of these parts
unfoldable pub world_of : Parts → World
world_of s = record {
  contexts = mapped (context_at s) s.contexts.map;
  groups = mapped (group_at s) s.groups.map;
  next = λ job. slice_index_or s.counts job nothing_counted;
  size = s.size;
}
