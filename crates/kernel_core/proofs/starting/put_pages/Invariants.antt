use Rattle.std.proofs.Common.{◌≡◌}
use Rattle.kernel_core.specs.Start.{world_so_far}
use Rattle.kernel_core.proofs.starting.put_pages.Given as goal

abbrev pub invariant-pages : goal.invariant-pages
invariant-pages g l = g.W.World.seen l.world ≡ world_so_far l.image (g.W.World.seen l.initial.world).size.frames l.k 0
