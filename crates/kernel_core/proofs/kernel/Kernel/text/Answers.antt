use Rattle.kernel_core.proofs.Steps.{as_seen, is_ready}
use Rattle.kernel_core.proofs.kernel.Kernel.text.Goals as goal

pub returns : goal.returns
returns g c = (is_ready _ _ _ (as_seen _ _ _ _ c.self.view_is c.self.invariant.1)).text
