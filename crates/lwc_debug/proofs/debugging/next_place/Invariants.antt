use Rattle.std.proofs.Common.{take}
use Rattle.lwc_debug.proofs.Telling.{IsNext}
use Rattle.lwc_debug.proofs.debugging.next_place.Given as goal

-- the next one among the places so far
abbrev pub invariant-answers : goal.invariant-answers
invariant-answers l = IsNext l.from (take l.answer-index l.answers) l.next
