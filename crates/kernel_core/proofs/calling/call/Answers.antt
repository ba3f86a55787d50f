use Rattle.std.proofs.Common.{rules}
use Rattle.kernel_core.proofs.Makes.{makes_all, makes_with}
use Rattle.kernel_core.specs.Step.{create_outcome, guest_calls, overlay_outcome, syscall_outcome}
use Rattle.kernel_core.proofs.calling.call.Goals as goal

pub returns-in-16-clause-outcome : goal.returns-in-16-clause-outcome
unfolding guest_calls
returns-in-16-clause-outcome g c =
    makes_with _ (λ e x. create_outcome e x) (λ e x. guest_calls c.args.number c.args.thread_number e x) _ _ _ _ _ (search (rules, c.in-16.is)) c.call_create.ensures.outcome

pub returns-in-17-clause-outcome : goal.returns-in-17-clause-outcome
unfolding guest_calls
returns-in-17-clause-outcome g c = search (rules, c.in-17.is, c.call_switch.ensures.outcome)

pub returns-in-18-clause-outcome : goal.returns-in-18-clause-outcome
unfolding guest_calls
returns-in-18-clause-outcome g c = search (rules, c.in-18.is, c.call_restrict.ensures.outcome)

pub returns-in-19-clause-outcome : goal.returns-in-19-clause-outcome
unfolding guest_calls
returns-in-19-clause-outcome g c =
    makes_with _ (λ e x. overlay_outcome e x) (λ e x. guest_calls c.args.number c.args.thread_number e x) _ _ _ _ _ (search (rules, c.in-19.is)) c.call_overlay.ensures.outcome

pub returns-in-20-clause-outcome : goal.returns-in-20-clause-outcome
unfolding guest_calls
returns-in-20-clause-outcome g c =
    makes_all _ (λ e x. syscall_outcome e x) (λ e x. guest_calls c.args.number c.args.thread_number e x) _ _ _ _ _ _ (search (rules, c.in-20.is)) c.call_syscall.ensures.outcome
