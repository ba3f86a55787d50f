-- The world of rows and counts.
use Rattle.std.specs.Prelude.{List, slice_index_or}
use Rattle.lwc_base.specs.World.{World, nothing_counted}
use Rattle.lwc_types.specs.declared.name.Name.{Name}
use Rattle.lwc_types.specs.declared.counters.Counters.{Counters}
use Rattle.lwc_types.specs.declared.size.WorldSize.{WorldSize}
use Rattle.whole_world.specs.declared.context_row.ContextRow.{ContextRow}
use Rattle.whole_world.specs.declared.group_row.GroupRow.{GroupRow}
use Rattle.whole_world.specs.Rows.{context_of, group_of}
use Rattle.whole_world.specs.Tables.{map_of}

-- the world of a size with these contexts, groups and counts by job
unfoldable pub world_of : WorldSize → List (Name × ContextRow) → List (Name × GroupRow) → List Counters → World
world_of size contexts groups counts = record {
  contexts = map_of context_of contexts;
  groups = map_of group_of groups;
  next = λ job. slice_index_or counts job nothing_counted;
  size = size;
}
