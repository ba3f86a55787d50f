use Rattle.lwc_stream.proofs.QueueSteps.{puts}
use Rattle.lwc_stream.proofs.ends.Puts.put.Goals as goal

pub try_push_as-requires-clause-rule : goal.try_push_as-requires-clause-rule
try_push_as-requires-clause-rule g c = puts _ _ _ _ c.loop.invariant.1.0
