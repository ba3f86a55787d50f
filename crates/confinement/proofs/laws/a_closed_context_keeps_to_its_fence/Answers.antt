use Rattle.confinement.proofs.EachRun.{its_fence}
use Rattle.confinement.proofs.laws.a_closed_context_keeps_to_its_fence.Goals as goal

pub returns : goal.returns
returns c = λ inputs steps d job can. its_fence inputs can steps d job
