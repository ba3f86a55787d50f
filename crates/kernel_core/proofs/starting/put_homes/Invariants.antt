use Rattle.std.proofs.Common.{◌≡◌}
use Rattle.kernel_core.specs.Machine.{homes_of}
use Rattle.kernel_core.specs.Start.{homes_so_far}
use Rattle.kernel_core.proofs.starting.put_homes.Given as goal

abbrev pub invariant-workers : goal.invariant-workers
invariant-workers g l = g.W.World.seen l.world ≡ homes_so_far l.image (g.W.World.seen l.initial.world).size.frames l.t

abbrev pub invariant-homes : goal.invariant-homes
invariant-homes g l = l.homes.items ≡ homes_of l.t
