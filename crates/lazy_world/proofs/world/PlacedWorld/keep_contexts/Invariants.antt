use Rattle.std.proofs.Common.{◌≡◌}
use Rattle.lazy_world.specs.Reaping.{keeps, left_by}
use Rattle.lazy_world.specs.Worlds.{seen}
use Rattle.lazy_world.proofs.world.PlacedWorld.keep_contexts.Given as goal

abbrev pub invariant-loop-i : goal.invariant-loop-i
invariant-loop-i l = record {
  map : l.self.contexts.map ≡ left_by l.initial.self.contexts.map (keeps l.marks l.i) l.initial.self.contexts.map;
  world : seen l.self ≡ record (seen l.initial.self) { contexts = left_by l.initial.self.contexts.map (keeps l.marks l.i) (seen l.initial.self).contexts };
}
