use Rattle.lwc_text.proofs.Replays.{HasRun}
use Rattle.lwc_text.proofs.replaying.make_steps.Given as goal

-- the steps up to i have been made
abbrev pub invariant-loop-i : goal.invariant-loop-i
invariant-loop-i g l = HasRun l.fn.kernel l.kernel l.schedule l.i
