use Rattle.lwc_names.proofs.Starts.{alone-acts, start-shifted}
use Rattle.lwc_names.proofs.laws.a_request_alone_starts_as_request_0.Goals as goal

pub returns : goal.returns
returns c = record {
  start = λ image frames budget r bytes. start-shifted r image frames budget bytes;
  acts = λ image frames budget bytes. alone-acts image frames budget bytes;
}
