use Rattle.confinement.proofs.EachRun.{step_confined}
use Rattle.confinement.proofs.laws.each_step_is_confined.Goals as goal

pub returns : goal.returns
returns c = λ inputs steps t can. step_confined inputs can steps t
