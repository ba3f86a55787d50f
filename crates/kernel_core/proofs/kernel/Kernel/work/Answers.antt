use Rattle.std.proofs.Common.{◌∙◌, List, ap, length, ℕ}
use Rattle.kernel_core.proofs.Steps.{as_seen, budgets_fit, requests_fit, serve_fits, work_fits, work_seen}
use Rattle.kernel_core.proofs.kernel.Kernel.work.Goals as goal

pub work_of-requires-clause-few : goal.work_of-requires-clause-few
work_of-requires-clause-few g c = budgets_fit _ _ _ (as_seen _ _ _ _ c.self.view_is c.self.invariant.1) _ c.as_slice.ensures.value

pub work_of-requires-clause-fits : goal.work_of-requires-clause-fits
work_of-requires-clause-fits g c = work_fits _ _ _ (as_seen _ _ _ _ c.self.view_is c.self.invariant.1) _ c.as_slice.ensures.value

pub work_of-requires-clause-serve : goal.work_of-requires-clause-serve
work_of-requires-clause-serve g c =
    serve_fits _ _ _ (as_seen _ _ _ _ c.self.view_is c.self.invariant.1) _ (c.len-requests.ensures ∙ ap (λ (l : List (List ℕ)). length l) c.requests.ensures.requests)

pub work_of-requires-clause-requests : goal.work_of-requires-clause-requests
work_of-requires-clause-requests g c =
    requests_fit _ _ _ (as_seen _ _ _ _ c.self.view_is c.self.invariant.1) _ (c.len-requests.ensures ∙ ap (λ (l : List (List ℕ)). length l) c.requests.ensures.requests)

pub returns : goal.returns
returns g c =
    c.work_of.ensures
    ∙ work_seen _ _ _ (as_seen _ _ _ _ c.self.view_is c.self.invariant.1) _ _ c.as_slice.ensures.value (c.len-requests.ensures ∙ ap (λ (l : List (List ℕ)). length l) c.requests.ensures.requests)
