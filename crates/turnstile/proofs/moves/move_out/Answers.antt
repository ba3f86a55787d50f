use Rattle.std.proofs.Common.{Some, ◌∷◌, sym, ap, ◌∙◌}
use Rattle.atomic_table.specs.Table.{rest}
use Rattle.turnstile.proofs.moves.move_out.Goals as goal

pub exchange-state-requires : goal.exchange-state-requires
exchange-state-requires g c = let holds = c.requires.holds in
    (c.requires.seat, (Some holds.0, holds.1 ∙ ap (λ slots. (0, Some holds.0) ∷ rest slots) (sym holds.1)))
