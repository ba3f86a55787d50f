use Rattle.guest_machine.proofs.Runs.{has_facts}
use Rattle.guest_machine.proofs.advancing.advance.Goals as goal

pub returns-clause-is_advance : goal.returns-clause-is_advance
returns-clause-is_advance c = has_facts c.args.text.now c.args.regs.now _ c.run_on-next.ensures.exact
