use Rattle.std.proofs.Common.{◌+◌, ◌-◌, length}
use Rattle.lwc_debug.proofs.Telling.{HasTold}
use Rattle.lwc_debug.proofs.debugging.answers.Given as goal

-- what is given before a place has been told, and the kernel has come no further than to it
abbrev pub invariant-places : goal.invariant-places
invariant-places g l = HasTold l.fn.kernel.inputs l.steps l.script l.from l.answers.items l.kernel

abbrev pub decreases-places : goal.decreases-places
decreases-places g l = length l.steps + 1 - l.from
