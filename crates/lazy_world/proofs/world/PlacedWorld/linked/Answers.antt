use Rattle.std.proofs.Common.{arith}
use Rattle.lazy_world.proofs.world.PlacedWorld.linked.Goals as goal

pub context-requires-clause-place : goal.context-requires-clause-place
context-requires-clause-place c = omega (arith, c.args.self.now.places.kept.slot_count, c.requires.place)
