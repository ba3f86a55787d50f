use Rattle.std.proofs.Common.{refl}
use Rattle.access_cap.proofs.Keys.{zeros_have_none}
use Rattle.access_cap.proofs.whole.empty.Goals as goal

pub returns-clause-none : goal.returns-clause-none
returns-clause-none c = zeros_have_none _ refl refl refl
