use Rattle.std.proofs.Common.{◌≡◌}
use Rattle.lwc_types.specs.declared.name.Name.{Name}
use Rattle.lazy_world.specs.Reaping.{NamesNone, keeps, left_by}
use Rattle.lazy_world.specs.Worlds.{parts, seen}
use Rattle.lazy_world.proofs.world.PlacedWorld.keep_groups.Given as goal

abbrev pub invariant-loop-j : goal.invariant-loop-j
invariant-loop-j l = record {
  names : (g : Name) → NamesNone (parts l.initial.self) g → NamesNone (parts l.self) g;
  map : l.self.groups.map ≡ left_by l.initial.self.groups.map (keeps l.marks l.j) l.initial.self.groups.map;
  world : seen l.self ≡ record (seen l.initial.self) { groups = left_by l.initial.self.groups.map (keeps l.marks l.j) (seen l.initial.self).groups };
}
