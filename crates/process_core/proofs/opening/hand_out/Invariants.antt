use Rattle.std.proofs.Common.{◌≡◌, ◌≤◌, ◌+◌, ℕ, [], ◌++◌, map, length, Some, slice_get, vec_capacity}
use Rattle.kernel_core.specs.Histories.{turn_after}
use Rattle.process_core.specs.Running.{Carried}
use Rattle.process_core.proofs.opening.hand_out.Given as goal

abbrev pub invariant-held : goal.invariant-held
invariant-held g l = record {
  all : map (λ (p : Carried). p.held) l.passes.items ++ l.held.items ≡ l.fn.held.items;
  turns : (i : ℕ) (q : Carried) → slice_get l.passes.items i ≡ Some q → turn_after l.gate.name.inputs [] i ≡ Some q.last;
  room : length l.passes.items + length l.held.items ≤ vec_capacity l.passes;
}

abbrev pub decreases-held : goal.decreases-held
decreases-held g l = length l.held.items
