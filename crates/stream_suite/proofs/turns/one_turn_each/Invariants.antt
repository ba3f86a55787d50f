use Rattle.std.proofs.Common.{◌≡◌, ◌<◌, ◌≤◌, ℕ, [], length, get_or}
use Rattle.turnstile.specs.Passes.{Held, AreAllOf}
use Rattle.stream_suite.proofs.turns.one_turn_each.Given as goal

abbrev pub invariant-loop-i : goal.invariant-loop-i
invariant-loop-i g l = record {
  all : AreAllOf l.gate l.passes.items;
  many : length l.passes.items ≡ length l.initial.passes.items;
  new : (k : ℕ) (d : Held ℕ) → l.i ≤ k → k < length l.passes.items → ((get_or l.passes.items k d).seen ≡ []) × ((get_or l.passes.items k d).number < l.gate.name);
}
