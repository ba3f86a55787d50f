use Rattle.lwc_switch.proofs.Accepted.{accepted}
use Rattle.lwc_switch.proofs.laws.an_accepted_switch_goes_to_a_linked_context.Goals as goal

pub returns : goal.returns
returns c = λ w v from d t regs arrived whole live is.
    accepted w from t regs whole live v d arrived is
