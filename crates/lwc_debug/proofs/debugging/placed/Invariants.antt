use Rattle.lwc_debug.proofs.Telling.{IsPlaced}
use Rattle.lwc_debug.proofs.debugging.placed.Given as goal

-- the first commands have their places, and the next one comes at this place
abbrev pub invariant-commands : goal.invariant-commands
invariant-commands l = IsPlaced l.count l.script l.answers.items l.i l.place
