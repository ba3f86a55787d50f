use Rattle.std.proofs.Common.{◌≡◌, ◌≤◌, length}
use Rattle.std.specs.Prelude.{vec_capacity}
use Rattle.lwc_text.proofs.Steps.{IsSoFar}
use Rattle.lwc_text.proofs.schedule.read_steps.Given as goal

abbrev pub invariant-first : goal.invariant-first
invariant-first l = record {
  so_far : IsSoFar l.threads l.most l.bytes l.byte-index l.steps.items;
  count : length l.steps.items ≡ l.byte-index;
  room : length l.bytes ≤ vec_capacity l.steps;
}

abbrev pub invariant-bytes : goal.invariant-bytes
invariant-bytes l = IsSoFar l.threads l.most l.bytes l.at l.steps.items
