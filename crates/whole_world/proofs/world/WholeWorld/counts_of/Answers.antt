use Rattle.std.proofs.Common.{arith}
use Rattle.whole_world.specs.States.{world_of}
use Rattle.whole_world.specs.Worlds.{seen}
use Rattle.whole_world.proofs.Worlds.{next-counted}
use Rattle.whole_world.proofs.world.WholeWorld.counts_of.Goals as goal

pub index-requires : goal.index-requires
unfolding seen world_of
index-requires c = omega (arith, c.args.self.now.sound.counted, c.requires)

pub returns : goal.returns
unfolding seen world_of
returns c = next-counted _ _ _ _ c.args.self.now.sound c.args.job _ (omega (arith, c.args.self.now.sound.counted, c.requires)) c.index.ensures
