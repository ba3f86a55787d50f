use Rattle.std.proofs.Common.{◌≡◌, length}
use Rattle.kernel_core.specs.Start.{world_so_far}
use Rattle.kernel_core.proofs.starting.put_slots.Given as goal

abbrev pub invariant-slots : goal.invariant-slots
invariant-slots g l =
    g.W.World.seen l.world ≡ world_so_far l.image (g.W.World.seen l.initial.world).size.frames (length l.image.pages) l.n
