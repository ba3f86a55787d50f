use Rattle.lwc_monitor.proofs.Replays.{HasRun}
use Rattle.lwc_monitor.proofs.replaying.make_steps.Given as goal

abbrev pub invariant-loop-i : goal.invariant-loop-i
invariant-loop-i g l = HasRun l.initial.run l.run l.schedule l.i
