use Rattle.std.proofs.Common.{arith}
use Rattle.std.proofs.lemmas.Bool.Decides.{nat_tests}
use Rattle.access_cap.proofs.Lent.{empty_has_kinds, full_has_kinds}
use Rattle.access_cap.proofs.granted.grants_kinds.Goals as goal

pub returns-then-all-pages : goal.returns-then-all-pages
returns-then-all-pages c = rw c.in-All.is (grind (arith, nat_tests, full_has_kinds c.args.pages c.requires c.in-All.all c.args.mask.0 c.if-all-pages.true))

pub returns-in-None : goal.returns-in-None
returns-in-None c = rw (c.in-None.is, c.chooses_any.ensures) (empty_has_kinds c.args.pages c.args.mask.0)
