use Rattle.lwc_stream.proofs.QueueSteps.{takes}
use Rattle.lwc_stream.proofs.ends.Takes.take.Goals as goal

pub try_pop_as-requires-clause-rule : goal.try_pop_as-requires-clause-rule
try_pop_as-requires-clause-rule c = takes _ _ c.self.invariant.1.1
