use Rattle.std.proofs.Common.{ap}
use Rattle.whole_world.specs.States.{world_of}
use Rattle.whole_world.specs.Worlds.{seen}
use Rattle.whole_world.proofs.world.WholeWorld.reserve.Goals as goal

pub returns-in_err-reserve-clause-world : goal.returns-in_err-reserve-clause-world
unfolding seen
returns-in_err-reserve-clause-world c = ap (λ rows. world_of c.args.self.now.size rows c.args.self.now.groups.rows.items c.args.self.now.counts.items) c.reserve.ensures.same

pub returns-clause-world : goal.returns-clause-world
unfolding seen
returns-clause-world c = λ i. world_of c.args.self.now.size (c.reserve.ensures.same i) (c.reserve-2.ensures.same i) c.args.self.now.counts.items
