use Rattle.std.proofs.Common.{◌-◌, ◌≤◌}
use Rattle.lazy_world.proofs.world.PlacedWorld.links_at.Given as goal

abbrev pub invariant-slots : goal.invariant-slots
invariant-slots l = record { below : l.from ≤ 64 }

abbrev pub decreases-slots : goal.decreases-slots
decreases-slots l = 64 - l.from
