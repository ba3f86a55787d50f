use Rattle.std.proofs.Common.{◌≡◌, None, replicate}
use Rattle.kernel_core.proofs.serve.Serve.open.Given as goal

abbrev pub invariant-loop : goal.invariant-loop
invariant-loop l = l.replies.items ≡ replicate l.counter None
