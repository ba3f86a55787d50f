use Rattle.confinement.proofs.EachRun.{closed_as_made}
use Rattle.confinement.proofs.laws.a_context_without_descriptors_is_closed.Goals as goal

pub returns : goal.returns
returns c = λ inputs before since t d can made none. closed_as_made inputs can before since t d made none
