use Rattle.std.proofs.Common.{rules}
use Rattle.turnstile.proofs.EachStep.{draws}
use Rattle.turnstile.proofs.moves.draw_ticket.Goals as goal

pub fetch_add-requires : goal.fetch_add-requires
fetch_add-requires g c = (search rules, search rules, draws g.S.Turned.name g.S.Turned.past _ _ _ _ c.requires.idle)
