use Rattle.std.proofs.Common.{take}
use Rattle.lazy_world.specs.CachedRoots.{HasLoose}
use Rattle.lazy_world.specs.Worlds.{seen}
use Rattle.lazy_world.proofs.world.PlacedWorld.garbage.Given as goal

abbrev pub invariant-loop-k : goal.invariant-loop-k
invariant-loop-k l = HasLoose (seen l.self) (take l.k l.names) l.roots l.loose
