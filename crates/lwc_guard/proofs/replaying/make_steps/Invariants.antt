use Rattle.lwc_guard.proofs.Replays.{HasRun}
use Rattle.lwc_guard.proofs.replaying.make_steps.Given as goal

abbrev pub invariant-loop-i : goal.invariant-loop-i
invariant-loop-i g l = HasRun l.initial.run l.run l.schedule l.i
