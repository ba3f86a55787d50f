use Rattle.confinement.proofs.EachRun.{slots_live, thread_lives}
use Rattle.confinement.proofs.laws.what_is_reached_is_live.Goals as goal

pub returns : goal.returns
returns c = record {
  threads = λ inputs steps t x can. thread_lives inputs can steps t x;
  slots = λ inputs steps can. slots_live inputs can steps;
}
