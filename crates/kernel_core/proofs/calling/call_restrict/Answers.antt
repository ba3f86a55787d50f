use Rattle.std.proofs.Common.{◌≡◌, ◌∙◌, ap, subst}
use Rattle.kernel_core.proofs.Reaping.{ended_keeps, leaves_restricted}
use Rattle.lwc_base.specs.declared.answer.Answer.{Answer}
use Rattle.lwc_overlay.specs.Named.{IfRefused}
use Rattle.lwc_overlay.proofs.Accepted.{restriction}
use Rattle.kernel_core.proofs.calling.call_restrict.Goals as goal

pub returns-clause-kept : goal.returns-clause-kept
returns-clause-kept g c =
    ended_keeps _ _ _ _ c.restrict-answer.result _ _
    (λ regs is. leaves_restricted _ _ _ c.args.thread.now.regs
    (restriction _ _ _ _ regs (c.restrict-answer.ensures.done ∙ ap (λ (a : Answer). (a, g.W.World.seen c.restrict-answer.new.world)) is)))
    (λ refusal is. subst (λ (a : Answer). IfRefused a (g.W.World.seen c.restrict-answer.new.world ≡ g.W.World.seen c.args.world.now)) is c.restrict-answer.ensures.refused)
    c.end_call.ensures.change c.end_call.ensures.thread
