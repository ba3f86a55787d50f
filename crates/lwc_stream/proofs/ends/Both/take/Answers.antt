use Rattle.lwc_stream.proofs.QueueSteps.{takes, totals}
use Rattle.lwc_stream.proofs.ends.Both.take.Goals as goal

pub pop_as-requires-clause-rule : goal.pop_as-requires-clause-rule
pop_as-requires-clause-rule g c = (takes _ _ c.self.invariant.1.1, totals _ _ c.self.invariant.1.0 c.self.invariant.1.1)
