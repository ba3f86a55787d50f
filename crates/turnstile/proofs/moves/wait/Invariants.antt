use Rattle.std.proofs.Common.{◌≡◌, ◌≤◌, []}
use Rattle.turnstile.specs.Steps.{noting}
use Rattle.turnstile.proofs.moves.wait.Given as goal

abbrev pub invariant-loop : goal.invariant-loop
invariant-loop g l =
    (l.seat.table_id ≡ l.initial.seat.table_id) × (l.seat.id ≡ l.initial.seat.id) × (l.initial.seat.me.0.noted ≤ l.seat.me.0.noted)
    × (l.seat.me ≡ (noting l.seat.me.0.noted l.initial.seat.me.0, []))
