use Rattle.thread_carrier.proofs.Turning.{have_turned, zip_map}
use Rattle.thread_carrier.proofs.carrier.carry_all.Goals as goal

pub returns-clause-turns : goal.returns-clause-turns
returns-clause-turns g c =
    zip_map _ _ _ _ (λ b d carried. have_turned c.args.process.now b.pass b.turns d.pass d.turns carried) c.carry_all.ensures.carries
