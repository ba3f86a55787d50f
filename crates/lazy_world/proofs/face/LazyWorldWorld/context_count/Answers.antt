use Rattle.std.proofs.Common.{◌∙◌, sym}
use Rattle.lazy_world.specs.Worlds.{parts, seen}
use Rattle.lazy_world.proofs.WorldLemmas.{len-contexts}
use Rattle.lazy_world.proofs.face.LazyWorldWorld.context_count.Goals as goal

pub returns : goal.returns
unfolding seen parts
returns c = c.len.ensures ∙ sym (len-contexts (parts c.args.self.now.world))
