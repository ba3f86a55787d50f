use Rattle.stream_suite.proofs.turns.log_of_both.Goals as goal

pub take_both-one-requires-clause-new : goal.take_both-one-requires-clause-new
take_both-one-requires-clause-new g c κs within = let passes = c.in_ok-gate.ensures.passes in let two = c.two_passes-one.ensures in (passes 0 _ two.first, passes 1 _ two.second)
