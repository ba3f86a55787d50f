use Rattle.kernel_core.specs.Kernel.{machine_of}
use Rattle.lwc_debug.proofs.Telling.{IsToldUpTo}
use Rattle.lwc_debug.proofs.debugging.answer_here.Given as goal

-- the first ones have been told
abbrev pub invariant-answers : goal.invariant-answers
invariant-answers g l = IsToldUpTo (machine_of l.kernel) l.count l.place l.initial.answers l.answers l.i
