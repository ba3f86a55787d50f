use Rattle.std.proofs.Common.{◌≡◌, take}
use Rattle.kernel_core.specs.Start.{first_threads}
use Rattle.kernel_core.proofs.starting.first_threads.Given as goal

abbrev pub invariant-entries : goal.invariant-entries
invariant-entries l = l.threads.items ≡ first_threads l.budget (take l.t l.entries)
