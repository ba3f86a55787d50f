use Rattle.lwc_names.proofs.Replies.{alone-numbered, extra-same, greatest-part}
use Rattle.lwc_names.proofs.laws.numbers_do_not_matter.Goals as goal
use Rattle.request_isolation.specs.Alone.{ample}

pub returns : goal.returns
returns c = record {
  reply = λ image budget r bytes. alone-numbered (ample image budget) image budget r bytes;
  frames = λ image budget r bytes. extra-same image budget r bytes;
  part = λ image budget before part after. greatest-part image budget before part after;
}
