use Rattle.std.proofs.Common.{◌≡◌, ◌≤◌, length, take}
use Rattle.std.specs.FinMap as fm
use Rattle.std.specs.List.{filter_map}
use Rattle.lazy_world.proofs.world.PlacedWorld.places_of.Given as goal

abbrev pub invariant-loop-name : goal.invariant-loop-name
invariant-loop-name l = record {
  found : l.places.items ≡ filter_map (fm.get l.self.contexts.map) (take l.name-index l.names);
  few : length l.places.items ≤ l.name-index;
}
