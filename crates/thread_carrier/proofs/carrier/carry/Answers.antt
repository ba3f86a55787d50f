use Rattle.thread_carrier.proofs.Turning.{have_turned}
use Rattle.thread_carrier.proofs.carrier.carry.Goals as goal

pub returns-clause-turns : goal.returns-clause-turns
returns-clause-turns g c = have_turned c.args.process.now c.args.carrier.now.pass c.args.carrier.now.turns _ _ c.carry.ensures.carries
