use Rattle.std.proofs.Common.{arith}
use Rattle.whole_world.specs.Worlds.{seen}
use Rattle.whole_world.proofs.Worlds.{len-contexts}
use Rattle.whole_world.proofs.world.WholeWorldWorld.context_count.Goals as goal

pub returns : goal.returns
unfolding seen
returns c = let many = len-contexts _ _ _ _ c.args.self.now.sound in omega (arith, many, c.args.self.now.sound.few_contexts, c.args.self.now.sound.size_contexts)
