use Rattle.std.proofs.Common.{◌∙◌, ap, subst, sym}
use Rattle.kernel_core.proofs.Plainly.{cuts_leaves, plain_keeps}
use Rattle.kernel_core.specs.Changes.{LeavesNothing, change_by_end}
use Rattle.lwc_base.specs.World.{World}
use Rattle.lwc_syscall.specs.Plain.{Outcome}
use Rattle.lwc_syscall.proofs.Links.{plain-cuts, plain-leaves}
use Rattle.lwc_syscall.proofs.Refused.{plain-done}
use Rattle.kernel_core.proofs.calling.call_plain.Goals as goal

pub returns-clause-kept : goal.returns-clause-kept
returns-clause-kept g c =
    let made = ap (λ (o : Outcome). o.world) c.in_ok-answer.ensures.done in
    plain_keeps _ _ _ _ c.in_ok-answer.answer c.from_number-call.result _ (λ is. sym made ∙ plain-leaves _ _ _ _ _ _ is)
    (λ is. subst (λ (v : World). LeavesNothing (g.W.World.seen c.args.world.now) c.args.thread.now.context v c.args.thread.now.context) made
    (cuts_leaves _ c.args.thread.now.context _ _ _ (plain-cuts _ _ _ _ _ _ is)))
    (λ refusal is. sym made ∙ (plain-done _ _ _ _ _ _ refusal (ap (λ (o : Outcome). o.answer) c.in_ok-answer.ensures.done ∙ is)).0)
    (c.end_plain.ensures.change ∙ ap (change_by_end c.in_ok-answer.answer) c.change_by_plain.ensures) c.end_plain.ensures.thread
