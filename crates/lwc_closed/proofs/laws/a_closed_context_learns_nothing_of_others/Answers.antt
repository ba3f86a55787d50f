use Rattle.lwc_closed.proofs.Learning.{closed_learn}
use Rattle.lwc_closed.proofs.laws.a_closed_context_learns_nothing_of_others.Goals as goal

pub returns : goal.returns
returns c = λ inputs before during d others can. closed_learn inputs can before during d others
