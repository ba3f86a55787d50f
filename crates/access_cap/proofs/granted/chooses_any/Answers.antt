use Rattle.std.proofs.Common.{arith}
use Rattle.access_cap.proofs.Lent.{chosen_any}
use Rattle.access_cap.proofs.granted.chooses_any.Goals as goal

pub returns : goal.returns
returns c = rw (c.chooses.ensures, c.chooses-2.ensures, c.chooses-3.ensures, chosen_any c.args.pages c.args.mask.0) (grind arith)
