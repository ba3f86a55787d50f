use Rattle.lwc_debug.proofs.Going.{HasGone}
use Rattle.lwc_debug.proofs.debugging.go_on.Given as goal

-- the steps up to i have been made
abbrev pub invariant-steps : goal.invariant-steps
invariant-steps g l = HasGone l.fn.kernel.inputs l.steps l.i l.kernel
