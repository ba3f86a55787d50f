use Rattle.std.proofs.Common.{length}
use Rattle.lwc_debug.proofs.ScriptLines.{IsSoFar}
use Rattle.lwc_debug.proofs.script.read_lines.Given as goal

abbrev pub invariant-loop-rest : goal.invariant-loop-rest
invariant-loop-rest l = IsSoFar l.bytes l.rest l.commands.items

abbrev pub decreases-loop-rest : goal.decreases-loop-rest
decreases-loop-rest l = length l.rest
