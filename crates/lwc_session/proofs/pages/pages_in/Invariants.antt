use Rattle.std.proofs.Common.{◌≡◌}
use Rattle.lwc_session.proofs.PageLists.{pages_below}
use Rattle.lwc_session.proofs.pages.pages_in.Given as goal

abbrev pub invariant-pages : goal.invariant-pages
invariant-pages g l = l.pages.items ≡ pages_below (g.W.World.seen l.world) l.context l.number
