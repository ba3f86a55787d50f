use Rattle.confinement.proofs.EachRun.{kept_beside, leaves_beside}
use Rattle.confinement.proofs.laws.steps_inside_or_away_keep_to_a_fence.Goals as goal

pub returns : goal.returns
returns c = record {
  keep = λ inputs before during f can. kept_beside inputs can before during f;
  each = λ inputs before during t f can. leaves_beside inputs can before during t f;
}
