use Rattle.cow_space.proofs.Taken.{new-still, page-same, parting-others, write-taken, written-kinds}
use Rattle.cow_space.proofs.laws.page_writes_take_few_frames.Goals as goal

pub returns : goal.returns
returns c =
    record {
      taken = write-taken;
      others = λ cells i p j q piece tag inside. parting-others cells i p piece tag inside j q;
      kinds = λ cells i p j piece tag inside. written-kinds cells i p piece tag inside j;
      same = λ cells i p j q piece tag inside. page-same cells i p piece tag inside j q;
      new = λ cells i p piece tag next inside new off own. new-still cells i p piece tag inside next new off;
    }
