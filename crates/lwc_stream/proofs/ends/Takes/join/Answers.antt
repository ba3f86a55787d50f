use Rattle.lwc_stream.proofs.QueueSteps.{merges}
use Rattle.lwc_stream.proofs.ends.Takes.join.Goals as goal

pub absorb-requires-clause-rule : goal.absorb-requires-clause-rule
absorb-requires-clause-rule c = merges _ _ _ _ c.puts.invariant.1.0 c.self.invariant.1.1
