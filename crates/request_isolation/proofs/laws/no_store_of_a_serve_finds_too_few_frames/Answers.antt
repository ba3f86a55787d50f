use Rattle.request_isolation.proofs.Isolated.{never_full}
use Rattle.request_isolation.proofs.laws.no_store_of_a_serve_finds_too_few_frames.Goals as goal

pub returns : goal.returns
returns c = λ inputs steps workers t can serve enough short.
    never_full inputs workers can serve enough steps t short
