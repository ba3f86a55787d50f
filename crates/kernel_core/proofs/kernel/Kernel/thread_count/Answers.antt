use Rattle.std.proofs.Common.{ap, arith, length}
use Rattle.kernel_core.proofs.Steps.{as_seen, is_ready}
use Rattle.kernel_core.specs.Machine.{Machine}
use Rattle.kernel_core.proofs.kernel.Kernel.thread_count.Goals as goal

pub overflow_cast-result : goal.overflow_cast-result
overflow_cast-result g c =
    let ready = is_ready _ _ _ (as_seen _ _ _ _ c.self.view_is c.self.invariant.1) in omega (arith, ready.few)

pub returns-clause-count : goal.returns-clause-count
returns-clause-count g c =
    let ready = is_ready _ _ _ (as_seen _ _ _ _ c.self.view_is c.self.invariant.1) in omega (arith, ready.count)

pub returns-clause-threads : goal.returns-clause-threads
returns-clause-threads g c =
    let steady = as_seen _ _ _ _ c.self.view_is c.self.invariant.1 in omega (arith, ap (λ (m : Machine). length m.threads) steady.machine)

pub returns-clause-some : goal.returns-clause-some
returns-clause-some g c =
    let ready = is_ready _ _ _ (as_seen _ _ _ _ c.self.view_is c.self.invariant.1) in omega (arith, ready.some)

pub returns-clause-few : goal.returns-clause-few
returns-clause-few g c =
    let ready = is_ready _ _ _ (as_seen _ _ _ _ c.self.view_is c.self.invariant.1) in omega (arith, ready.few)
