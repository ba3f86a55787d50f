use Rattle.reach.proofs.Found.{none_marked}
use Rattle.reach.proofs.marks.Marks.new.Goals as goal

pub returns : goal.returns
returns c = record { none = none_marked 529 }
