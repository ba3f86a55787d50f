use Rattle.confinement.proofs.EachRun.{run_confined}
use Rattle.confinement.proofs.laws.runs_are_confined.Goals as goal

pub returns : goal.returns
returns c = λ inputs steps can. run_confined inputs can steps
