use Rattle.std.proofs.Common.{arith}
use Rattle.std.proofs.lemmas.Bool.Decides.{nat_tests}
use Rattle.access_cap.proofs.Lent.{empty_covers, full_covers, named_any}
use Rattle.access_cap.proofs.granted.grants.Goals as goal

pub returns-then-all-pages : goal.returns-then-all-pages
returns-then-all-pages c = rw c.in-All.is (grind (arith, nat_tests, full_covers c.args.pages c.requires c.in-All.all c.args.spec.now c.if-all-pages.true))

pub returns-in-None : goal.returns-in-None
returns-in-None c =
    rw (c.in-None.is, c.names_any.ensures, c.items.ensures.items, named_any c.args.pages c.args.spec.now c.items.ensures.valid.each)
    (empty_covers c.args.pages c.args.spec.now)
