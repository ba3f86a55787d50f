use Rattle.lwc_text.proofs.Listed.{complete_listed, is_listed, same_report}
use Rattle.lwc_text.proofs.laws.a_report_is_that_of_the_replay_of_its_list.Goals as goal

pub returns : goal.returns
returns c = record {
  schedule = λ inputs steps can legal some short. is_listed inputs steps can legal some short;
  complete = λ inputs steps can complete few. complete_listed inputs steps can complete few;
  same = λ inputs steps legal. same_report inputs steps legal;
}
