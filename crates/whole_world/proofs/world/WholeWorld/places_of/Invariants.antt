use Rattle.std.proofs.Common.{◌≡◌, ◌≤◌, length, take}
use Rattle.std.specs.List.{filter_map, position}
use Rattle.whole_world.specs.Tables.{has_name}
use Rattle.whole_world.proofs.world.WholeWorld.places_of.Given as goal

abbrev pub invariant-loop-name : goal.invariant-loop-name
invariant-loop-name l = record {
  found : l.places.items ≡ filter_map (λ c. position (has_name c) l.self.contexts.rows.items) (take l.name-index l.names);
  few : length l.places.items ≤ l.name-index;
}
