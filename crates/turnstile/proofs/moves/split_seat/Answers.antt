use Rattle.std.proofs.Common.{rules}
use Rattle.turnstile.proofs.EachStep.{splits_seat}
use Rattle.turnstile.proofs.moves.split_seat.Goals as goal

pub split_seat-requires : goal.split_seat-requires
split_seat-requires g c =
    (search rules, search rules, splits_seat g.S.Turned.name g.S.Turned.past _ _ _ c.requires.first c.requires.idle c.requires.room)
