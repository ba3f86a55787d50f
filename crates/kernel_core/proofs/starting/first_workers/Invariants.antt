use Rattle.std.proofs.Common.{◌≡◌}
use Rattle.kernel_core.specs.Start.{first_workers}
use Rattle.kernel_core.proofs.starting.first_workers.Given as goal

abbrev pub invariant-workers : goal.invariant-workers
invariant-workers l = l.threads.items ≡ first_workers l.entry l.t
