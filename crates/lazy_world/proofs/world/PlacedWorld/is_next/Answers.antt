use Rattle.lazy_world.specs.Worlds.{seen}
use Rattle.lazy_world.proofs.LooseLemmas.{next-root}
use Rattle.lazy_world.proofs.world.PlacedWorld.is_next.Goals as goal

pub returns-then-links_to : goal.returns-then-links_to
returns-then-links_to c _ =
    next-root (seen c.args.self.now) c.args.roots.now c.loop-i.i _ c.args.context c.requires c.loop-i-test.true (c.links_to.ensures c.if-links_to.true)
