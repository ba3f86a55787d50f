use Rattle.confinement.proofs.EachRun.{fences_leave, fences_silent}
use Rattle.confinement.proofs.laws.steps_inside_a_fence_leave_what_is_outside.Goals as goal

pub returns : goal.returns
returns c = record {
  leaves = λ inputs before during f can. fences_leave inputs can before during f;
  silent = λ inputs before during f can. fences_silent inputs can before during f;
}
