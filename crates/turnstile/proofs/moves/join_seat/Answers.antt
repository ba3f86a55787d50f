use Rattle.std.proofs.Common.{rules}
use Rattle.turnstile.proofs.EachStep.{joins_seat}
use Rattle.turnstile.proofs.moves.join_seat.Goals as goal

pub join_seat-requires : goal.join_seat-requires
join_seat-requires g c = let other = c.requires.other in
    (search rules, other.0, other.2, search rules, joins_seat g.S.Turned.name g.S.Turned.past _ _ _ _ _ c.requires.first c.requires.idle other.1)
