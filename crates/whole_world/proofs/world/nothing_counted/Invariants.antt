use Rattle.std.proofs.Common.{◌≡◌}
use Rattle.std.specs.Prelude.{replicate}
use Rattle.lwc_base.specs.World.{nothing_counted}
use Rattle.whole_world.proofs.world.nothing_counted.Given as goal

abbrev pub invariant-loop : goal.invariant-loop
invariant-loop l = l.counts.items ≡ replicate l.counter nothing_counted
