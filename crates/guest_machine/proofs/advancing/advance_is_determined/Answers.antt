use Rattle.guest_machine.proofs.Runs.{advanced_is_advance, advance_is_one}
use Rattle.guest_machine.proofs.advancing.advance_is_determined.Goals as goal

pub returns-clause-some : goal.returns-clause-some
returns-clause-some c = advanced_is_advance

pub returns-clause-one : goal.returns-clause-one
returns-clause-one c = advance_is_one
