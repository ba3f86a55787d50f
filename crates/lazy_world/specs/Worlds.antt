-- The world that shared pages stand for.
use Rattle.std.specs.Prelude.{ℕ, List}
use Rattle.lwc_base.specs.declared.item.Item.{Item}
use Rattle.lwc_base.specs.World.{World}
use Rattle.lwc_types.specs.declared.right.Right.{Right}
use Rattle.lazy_world.specs.declared.transfer.Transfer.{Transfer}
use Rattle.lazy_world.specs.declared.world.PlacedWorld.{PlacedWorld}
use Rattle.lazy_world.specs.Cells.{Row}
use Rattle.lazy_world.specs.Transfers.{transferred_rights, transferred_row}
use Rattle.lazy_world.specs.Seen.{rights, rows}
use Rattle.lazy_world.specs.States.{Parts, world_of}

-- its parts
unfoldable pub parts : PlacedWorld → Parts
parts w = record {
  size = w.size;
  rows = rows w.places;
  rights = rights w.places;
  registers = w.registers;
  contexts = w.contexts;
  groups = w.groups;
  counts = w.counts.items;
}

-- the world of them
unfoldable pub seen : PlacedWorld → World
seen w = world_of (parts w)

-- the row that the place `to` gets by a transfer of the place `from`
abbrev pub transferred : PlacedWorld → Transfer → List Item → ℕ → ℕ → Row
transferred w transfer items from to =
    transferred_row (seen w) transfer items (rows w.places from) (rows w.places to)

-- the rights that it gets
abbrev pub right_transferred : PlacedWorld → Transfer → List Item → ℕ → ℕ → ℕ → Right
right_transferred w transfer items from to =
    transferred_rights transfer items (rows w.places from) (rights w.places from) (rights w.places to)
