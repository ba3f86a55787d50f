use Rattle.std.proofs.Common.{rules}
use Rattle.turnstile.proofs.EachStep.{passes_on}
use Rattle.turnstile.proofs.moves.pass_on.Goals as goal

pub fetch_add-requires : goal.fetch_add-requires
fetch_add-requires g c = let turn = c.requires.turn in
    (search rules, search rules, passes_on g.S.Turned.name g.S.Turned.past _ _ _ _ turn.0 turn.1 turn.2 (g.S.Turned.short turn.0))
