use Rattle.std.proofs.Common.{length, ◌-◌}
use Rattle.lwc_io.proofs.Outputs.{TakenSoFar}
use Rattle.lwc_io.proofs.writing.write_whole.Given as goal

-- the first `at` bytes of the text have been taken
abbrev pub invariant-loop-at : goal.invariant-loop-at
invariant-loop-at g l = let seen = g.O.Sink.seen in TakenSoFar (seen l.fn.out) (seen l.out) l.at l.text

abbrev pub decreases-loop-at : goal.decreases-loop-at
decreases-loop-at g l = length l.text - l.at
