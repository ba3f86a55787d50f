use Rattle.lwc_closed.proofs.Serving.{closed_in_serve, kept_in_serve, leaves_in_serve, over_its_job}
use Rattle.lwc_closed.proofs.laws.steps_for_other_requests_keep_to_a_fence.Goals as goal

pub returns : goal.returns
returns c = record {
  keep = λ inputs before during workers job f can serve. kept_in_serve inputs workers can serve before during job f;
  each = λ inputs before during workers t job f can serve. leaves_in_serve inputs workers can serve before during t job f;
  closed = λ inputs before during workers d can serve. closed_in_serve inputs workers can serve before d during;
  over = λ inputs steps workers d can serve. over_its_job inputs workers can serve steps d;
}
