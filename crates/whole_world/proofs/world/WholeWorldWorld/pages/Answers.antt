use Rattle.whole_world.specs.States.{world_of}
use Rattle.whole_world.specs.Worlds.{seen}
use Rattle.whole_world.proofs.world.WholeWorldWorld.pages.Goals as goal

pub returns-clause-few : goal.returns-clause-few
unfolding seen world_of
returns-clause-few c = c.args.self.now.sound.few_pages
