use Rattle.std.proofs.Common.{◌≡◌, ◌+◌}
use Rattle.turnstile.specs.Past.{times}
use Rattle.turnstile.specs.Passes.{IsPassOf}
use Rattle.stream_suite.proofs.turns.take_turns.Given as goal

abbrev pub invariant-loop-turn : goal.invariant-loop-turn
invariant-loop-turn g l = record {
  ours : IsPassOf l.gate l.pass;
  number : l.pass.number ≡ l.initial.pass.number;
  count : times l.initial.pass.number l.pass.seen ≡ times l.initial.pass.number l.initial.pass.seen + l._turn;
}
