use Rattle.confinement.proofs.EachRun.{resumes_as_made}
use Rattle.confinement.proofs.laws.who_enters_it_goes_on_as_it_was_made.Goals as goal

pub returns : goal.returns
returns c = λ inputs before since t u d x held can. resumes_as_made inputs can before since t u d x held
