use Rattle.std.proofs.Common.{rules}
use Rattle.turnstile.proofs.EachStep.{looks}
use Rattle.turnstile.proofs.moves.look.Goals as goal

pub load-requires : goal.load-requires
load-requires g c = (search rules, search rules, looks g.S.Turned.name g.S.Turned.past _ _ _ _ c.requires.before)
