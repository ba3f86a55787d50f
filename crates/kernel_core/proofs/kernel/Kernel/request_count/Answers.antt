use Rattle.std.proofs.Common.{◌∙◌, List, ap, arith, length, ℕ}
use Rattle.kernel_core.proofs.Steps.{as_seen, is_ready}
use Rattle.kernel_core.specs.Machine.{Machine}
use Rattle.kernel_core.proofs.kernel.Kernel.request_count.Goals as goal

pub returns-clause-count : goal.returns-clause-count
returns-clause-count g c =
    let ready = is_ready _ _ _ (as_seen _ _ _ _ c.self.view_is c.self.invariant.1) in
    c.len.ensures ∙ ap (λ (l : List (List ℕ)). length l) (c.requests.ensures.requests ∙ ready.given_requests)

pub returns-clause-few : goal.returns-clause-few
returns-clause-few g c =
    let ready = is_ready _ _ _ (as_seen _ _ _ _ c.self.view_is c.self.invariant.1) in
    omega (arith, c.len.ensures, ap (λ (l : List (List ℕ)). length l) (c.requests.ensures.requests ∙ ready.given_requests), ready.few_requests)

pub returns-clause-requests : goal.returns-clause-requests
returns-clause-requests g c =
    let steady = as_seen _ _ _ _ c.self.view_is c.self.invariant.1 in
    c.len.ensures ∙ ap (λ (l : List (List ℕ)). length l) c.requests.ensures.requests ∙ ap (λ (m : Machine). length m.environment.channels.requests) steady.machine
