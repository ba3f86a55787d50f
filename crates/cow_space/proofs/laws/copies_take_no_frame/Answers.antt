use Rattle.cow_space.proofs.Taken.{changed-used, cloned-used}
use Rattle.cow_space.proofs.laws.copies_take_no_frame.Goals as goal

pub returns : goal.returns
returns c =
    record {
      cloned = λ cells to from inside low none. cloned-used cells to inside none from low;
      changed = λ cells i page_runs inside none. changed-used cells i inside none page_runs;
    }
