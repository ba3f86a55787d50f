use Rattle.std.proofs.Common.{length}
use Rattle.lwc_text.proofs.RequestLines.{IsSoFar}
use Rattle.lwc_text.proofs.requests.read_lines.Given as goal

abbrev pub invariant-loop-rest : goal.invariant-loop-rest
invariant-loop-rest l = IsSoFar l.bytes l.rest (length l.requests.items) l.requests.items

abbrev pub decreases-loop-rest : goal.decreases-loop-rest
decreases-loop-rest l = length l.rest
