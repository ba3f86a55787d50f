use Rattle.kernel_core.proofs.Steps.{as_seen}
use Rattle.kernel_core.proofs.kernel.Kernel.was_opened.Goals as goal

pub returns : goal.returns
returns g c = (as_seen _ _ _ _ c.self.view_is c.self.invariant.1).inputs
