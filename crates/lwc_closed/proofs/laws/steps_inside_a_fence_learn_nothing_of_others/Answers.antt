use Rattle.lwc_closed.proofs.Learning.{fenced_learn}
use Rattle.lwc_closed.proofs.laws.steps_inside_a_fence_learn_nothing_of_others.Goals as goal

pub returns : goal.returns
returns c = λ inputs before during f others can. fenced_learn inputs can before during f others
