use Rattle.guest_isa.proofs.Inverse.{reading-spelling, spelling-reading, IsBytes-from_all}
use Rattle.guest_isa.proofs.spelling.spelling_is_inverse.Goals as goal

pub returns-clause-read_back : goal.returns-clause-read_back
returns-clause-read_back c = reading-spelling

pub returns-clause-spelled : goal.returns-clause-spelled
returns-clause-spelled c bytes i eight fits e = spelling-reading bytes i eight (IsBytes-from_all bytes fits) e
