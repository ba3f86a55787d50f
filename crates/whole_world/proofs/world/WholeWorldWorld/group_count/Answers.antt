use Rattle.std.proofs.Common.{arith}
use Rattle.whole_world.specs.Worlds.{seen}
use Rattle.whole_world.proofs.Worlds.{len-groups}
use Rattle.whole_world.proofs.world.WholeWorldWorld.group_count.Goals as goal

pub returns : goal.returns
unfolding seen
returns c = let many = len-groups _ _ _ _ c.args.self.now.sound in omega (arith, many, c.args.self.now.sound.few_groups, c.args.self.now.sound.size_groups)
