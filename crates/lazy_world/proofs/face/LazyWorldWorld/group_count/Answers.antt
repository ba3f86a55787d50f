use Rattle.std.proofs.Common.{◌∙◌, sym}
use Rattle.lazy_world.specs.Worlds.{parts, seen}
use Rattle.lazy_world.proofs.WorldLemmas.{len-groups}
use Rattle.lazy_world.proofs.face.LazyWorldWorld.group_count.Goals as goal

pub returns : goal.returns
unfolding seen parts
returns c = c.len.ensures ∙ sym (len-groups (parts c.args.self.now.world))
