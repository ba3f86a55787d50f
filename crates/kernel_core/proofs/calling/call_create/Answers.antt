use Rattle.std.proofs.Common.{◌≡◌, ◌∙◌, ap, subst}
use Rattle.kernel_core.proofs.Reaping.{ended_keeps, leaves_created}
use Rattle.lwc_base.specs.declared.answer.Answer.{Answer}
use Rattle.lwc_create.specs.Create.{IfRefused}
use Rattle.kernel_core.proofs.calling.call_create.Goals as goal

pub returns-clause-kept : goal.returns-clause-kept
returns-clause-kept g c =
    ended_keeps _ _ _ _ c.in_ok-answer.answer _ _
    (λ regs is. leaves_created _ _ _ c.args.thread.now.job c.args.thread.now.regs regs c.requires.ready.sound c.requires.ready.live
    (c.in_ok-answer.ensures.done ∙ ap (λ (a : Answer). (a, g.W.World.seen c.create.new.world)) is))
    (λ refusal is. subst (λ (a : Answer). IfRefused a (g.W.World.seen c.create.new.world ≡ g.W.World.seen c.args.world.now)) is c.in_ok-answer.ensures.refused)
    c.end_call.ensures.change c.end_call.ensures.thread
