use Rattle.kernel_core.specs.Runs.{run}
use Rattle.kernel_core.specs.Start.{start}
use Rattle.request_isolation.proofs.Isolated.{keeps_homes, peak_bound, restored}
use Rattle.request_isolation.proofs.Restored.{ended_rest}
use Rattle.request_isolation.proofs.laws.a_request_leaves_nothing_behind.Goals as goal

pub returns-clause-always : goal.returns-clause-always
returns-clause-always c inputs steps workers can serve = keeps_homes inputs workers can serve steps

pub returns-clause-rest : goal.returns-clause-rest
returns-clause-rest c inputs steps workers can serve rest = restored inputs workers can serve steps rest

pub returns-clause-finished : goal.returns-clause-finished
returns-clause-finished c inputs steps workers can serve complete = restored inputs workers can serve steps (ended_rest (run (start inputs) steps) complete.ended)

pub returns-clause-bounded : goal.returns-clause-bounded
returns-clause-bounded c inputs steps workers can serve = peak_bound inputs workers can serve steps
