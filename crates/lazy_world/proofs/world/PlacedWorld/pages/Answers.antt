use Rattle.lazy_world.specs.States.{world_of}
use Rattle.lazy_world.specs.Worlds.{parts, seen}
use Rattle.lazy_world.proofs.world.PlacedWorld.pages.Goals as goal

pub returns-clause-few : goal.returns-clause-few
unfolding seen parts world_of
returns-clause-few c = c.args.self.now.sound.sizes.size.pages.1
