use Rattle.request_isolation.proofs.Isolated.{recorded_alone}
use Rattle.request_isolation.proofs.laws.each_reply_is_that_of_its_request_alone.Goals as goal

pub returns : goal.returns
returns c = λ inputs steps r told can enough is.
    recorded_alone inputs can steps r told is enough
