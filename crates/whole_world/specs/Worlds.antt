-- The world that a world of whole copies stands for.
use Rattle.std.specs.Prelude.{◌<◌, vec_capacity, vec_len}
use Rattle.lwc_base.specs.World.{World}
use Rattle.whole_world.specs.declared.table.Table.{Table}
use Rattle.whole_world.specs.declared.world.WholeWorld.{WholeWorld}
use Rattle.whole_world.specs.States.{world_of}

-- the world that the copies stand for
unfoldable pub seen : WholeWorld → World
seen w = world_of w.size w.contexts.rows.items w.groups.rows.items w.counts.items

-- there is memory for one more row
abbrev pub HasRoom : {T : Type 0} → Table T → Type 0
HasRoom table = vec_len table.rows < vec_capacity table.rows
