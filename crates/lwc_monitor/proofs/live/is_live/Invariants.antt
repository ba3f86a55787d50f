use Rattle.std.proofs.Common.{◌≡◌, false}
use Rattle.lwc_monitor.proofs.Names.{is_among_first}
use Rattle.lwc_monitor.proofs.live.is_live.Given as goal

abbrev pub invariant-contexts : goal.invariant-contexts
invariant-contexts g l = is_among_first (g.W.World.seen l.world) l.i l.context ≡ false
