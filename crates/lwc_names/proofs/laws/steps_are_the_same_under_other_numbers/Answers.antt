use Rattle.lwc_names.proofs.Machines.{step-shifted}
use Rattle.lwc_names.proofs.Runs.{most-shifted, run-shifted, step-acts}
use Rattle.lwc_names.proofs.laws.steps_are_the_same_under_other_numbers.Goals as goal

pub returns : goal.returns
returns c = record {
  step = λ r m t acts. step-shifted r m t acts;
  run = λ r m steps acts. run-shifted r m steps acts;
  frames = λ r m steps acts. most-shifted r m steps acts;
  acts = λ m t acts. step-acts t m acts;
}
