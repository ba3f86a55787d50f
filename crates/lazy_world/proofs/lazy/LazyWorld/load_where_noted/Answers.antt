use Rattle.std.proofs.Common.{◌≤◌, arith}
use Rattle.lwc_types.specs.declared.limits.TheConstants.{MOST_PAGES}
use Rattle.lazy_world.specs.States.{world_of}
use Rattle.lazy_world.specs.Worlds.{parts, seen}
use Rattle.lazy_world.specs.declared.world.PlacedWorld.{PlacedWorld}
use Rattle.lazy_world.proofs.lazy.LazyWorld.load_where_noted.Goals as goal

few : (w : PlacedWorld) → (seen w).size.pages ≤ MOST_PAGES
unfolding seen parts world_of
few w = w.sound.sizes.size.pages.1

pub overflow_cast-page-2 : goal.overflow_cast-page-2
overflow_cast-page-2 c = omega (arith, few c.args.self.now.world, c.requires.within)

pub load_noted-requires-clause-note : goal.load_noted-requires-clause-note
load_noted-requires-clause-note c =
    let found = c.in-Some.ensures.noted in
    c.args.self.now.noted.read found.0 _ found.1.0 found.1.1
