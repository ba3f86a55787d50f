use Rattle.guest_machine.proofs.Runs.{IsUnderWay}
use Rattle.guest_machine.proofs.advancing.run_on.Given as goal

abbrev pub invariant-loop-done : goal.invariant-loop-done
invariant-loop-done l = IsUnderWay l.text l.initial.regs l._done (record { r = l.regs.r; pc = l.pc })
