use Rattle.std.specs.Prelude.{⊤}
use Rattle.lazy_world.proofs.world.PlacedWorld.is_next.Given as goal

abbrev pub invariant-loop-i : goal.invariant-loop-i
invariant-loop-i l = ⊤
