use Rattle.std.proofs.Common.{◌≡◌, ℕ, length, Some, slice_get}
use Rattle.kernel_core.specs.Kernel.{turn}
use Rattle.kernel_core.specs.declared.thread.Turn.{Turn}
use Rattle.process_core.proofs.opening.first_turns.Given as goal

abbrev pub invariant-threads : goal.invariant-threads
invariant-threads g l = record {
  count : length l.turns.items ≡ l.t;
  turns : (t : ℕ) (last : Turn) → slice_get l.turns.items t ≡ Some last → turn l.kernel t ≡ Some last;
}
