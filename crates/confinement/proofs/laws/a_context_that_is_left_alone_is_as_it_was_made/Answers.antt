use Rattle.confinement.proofs.EachRun.{stays_as_made}
use Rattle.confinement.proofs.laws.a_context_that_is_left_alone_is_as_it_was_made.Goals as goal

pub returns : goal.returns
returns c = λ inputs before since t d can. stays_as_made inputs can before since t d
