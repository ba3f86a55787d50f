use Rattle.confinement.proofs.EachRun.{enters_closed, others_left, others_silent}
use Rattle.confinement.proofs.laws.a_closed_context_leaves_others.Goals as goal

pub returns : goal.returns
returns c = record {
  leaves = λ inputs before during d can. others_left inputs can before during d;
  silent = λ inputs before during d can. others_silent inputs can before during d;
  entered = λ inputs steps t x d cap can. enters_closed inputs can steps t x d cap;
}
