use Rattle.std.proofs.Common.{arith}
use Rattle.lazy_world.proofs.places.Places.slot.Goals as goal

pub cell-requires-clause-place : goal.cell-requires-clause-place
cell-requires-clause-place c = omega (arith, c.args.self.now.kept.slot_count, c.requires.place)
