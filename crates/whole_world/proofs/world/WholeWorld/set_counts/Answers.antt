use Rattle.std.proofs.Common.{arith}
use Rattle.whole_world.specs.States.{world_of}
use Rattle.whole_world.specs.Worlds.{seen}
use Rattle.whole_world.proofs.Worlds.{change_counters-at, sound-counts}
use Rattle.whole_world.proofs.world.WholeWorld.set_counts.Goals as goal

pub index_mut-requires : goal.index_mut-requires
unfolding seen world_of
index_mut-requires c = omega (arith, c.args.self.now.sound.counted, c.requires.known)

pub invariant_of-self : goal.invariant_of-self
unfolding seen world_of
invariant_of-self c = record {
  sound = sound-counts _ _ _ _ c.args.self.now.sound c.args.job c.args.counts (omega (arith, c.args.self.now.sound.counted, c.requires.known)) c.requires.rises;
}

pub returns-clause-world : goal.returns-clause-world
unfolding seen world_of
returns-clause-world c = change_counters-at _ _ _ _ c.args.self.now.sound c.args.job c.args.counts (omega (arith, c.args.self.now.sound.counted, c.requires.known))
