use Rattle.std.proofs.Common.{◌≡◌, ◌≤◌, map}
use Rattle.std.specs.List.{range_with_len}
use Rattle.kernel_core.specs.Kernel.{machine_of}
use Rattle.kernel_core.specs.Machine.{reply_of}
use Rattle.lwc_gen.specs.Summary.{recorded_reply, totals_of}
use Rattle.lwc_gen.proofs.summing.totals.Given as goal

abbrev pub invariant-requests : goal.invariant-requests
invariant-requests g l = record {
  so_far : l.totals ≡ totals_of (map (λ r. recorded_reply (reply_of (machine_of l.kernel) r)) (range_with_len 0 l.r));
  requests : l.totals.requests ≡ l.r;
  done : l.totals.done ≤ l.totals.requests;
}
