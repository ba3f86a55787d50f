use Rattle.std.proofs.Common.{◌≤◌, arith}
use Rattle.lwc_types.specs.declared.limits.TheConstants.{MOST_PAGES}
use Rattle.lazy_world.specs.States.{world_of}
use Rattle.lazy_world.specs.Worlds.{parts, seen}
use Rattle.lazy_world.specs.declared.world.PlacedWorld.{PlacedWorld}
use Rattle.lazy_world.proofs.lazy.LazyWorld.store_unnoted.Goals as goal

few : (w : PlacedWorld) → (seen w).size.pages ≤ MOST_PAGES
unfolding seen parts world_of
few w = w.sound.sizes.size.pages.1

pub overflow_cast-at-2 : goal.overflow_cast-at-2
overflow_cast-at-2 c = omega (arith, few c.args.self.now.world, c.requires.within)
