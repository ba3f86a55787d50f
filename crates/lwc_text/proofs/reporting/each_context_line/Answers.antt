use Rattle.std.proofs.Common.{arith}
use Rattle.lwc_text.specs.Report.{contexts_text}
use Rattle.lwc_text.proofs.Machines.{all_contexts, one_more_context}
use Rattle.lwc_text.proofs.reporting.each_context_line.Goals as goal

pub contexts-preserved : goal.contexts-preserved
contexts-preserved g c =
    one_more_context _ _ _ _ _ _ _ c.in-Some.ensures c.summary.ensures.value c.contexts.invariant
    c.in_ok-context_line.ensures.ok

pub returns-clause-ok : goal.returns-clause-ok
unfolding contexts_text
returns-clause-ok g c =
    let w = g.W.World.seen c.args.world.now in
    all_contexts w c.contexts.i _ _ (omega (arith, c.context_count-i-end.ensures)) c.contexts.invariant
