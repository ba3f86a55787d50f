use Rattle.blank_steps.proofs.Stepping.{step_blank}
use Rattle.blank_steps.proofs.laws.a_step_outside_a_context_depends_on_no_byte_of_it.Goals as goal

pub returns : goal.returns
returns c = λ v m t. step_blank v m t
