use Rattle.std.proofs.Common.{◌∙◌}
use Rattle.lazy_world.proofs.UsedLemmas.{used-world}
use Rattle.lazy_world.proofs.face.LazyWorldWorld.used.Goals as goal

pub returns : goal.returns
returns c = c.used.ensures.used ∙ used-world c.args.self.now.world
