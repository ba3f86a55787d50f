use Rattle.std.proofs.Common.{◌∙◌, ap}
use Rattle.kernel_core.proofs.Steps.{as_seen, begun, first_peak, is_ready}
use Rattle.kernel_core.specs.Kernel.{History}
use Rattle.kernel_core.specs.Machine.{Machine}
use Rattle.kernel_core.proofs.kernel.Kernel.into_parts.Goals as goal

pub returns-clause-world : goal.returns-clause-world
returns-clause-world g c =
    ap (λ (m : Machine). m.environment.world) (begun _ _ _ (as_seen _ _ _ _ c.self.view_is c.self.invariant.1) c.requires)

pub returns-clause-channels : goal.returns-clause-channels
returns-clause-channels g c =
    ap (λ (m : Machine). m.environment.channels) (begun _ _ _ (as_seen _ _ _ _ c.self.view_is c.self.invariant.1) c.requires)

pub returns-clause-text : goal.returns-clause-text
returns-clause-text g c = (is_ready _ _ _ (as_seen _ _ _ _ c.self.view_is c.self.invariant.1)).text

pub returns-clause-threads : goal.returns-clause-threads
returns-clause-threads g c =
    ap (λ (m : Machine). m.threads) (begun _ _ _ (as_seen _ _ _ _ c.self.view_is c.self.invariant.1) c.requires)

pub returns-clause-schedule : goal.returns-clause-schedule
returns-clause-schedule g c = ap (λ (h : History). h.steps) c.self.view_is ∙ c.requires

pub returns-clause-room : goal.returns-clause-room
returns-clause-room g c = ap (λ (h : History). h.room) c.self.view_is

pub returns-clause-fits : goal.returns-clause-fits
returns-clause-fits g c = c.self.invariant.0

pub returns-clause-peak : goal.returns-clause-peak
returns-clause-peak g c = first_peak _ _ _ (as_seen _ _ _ _ c.self.view_is c.self.invariant.1) c.requires
