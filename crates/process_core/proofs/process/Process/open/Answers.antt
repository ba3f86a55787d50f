use Rattle.process_core.proofs.Sends.{guarded_send, guarded_sync}
use Rattle.std.proofs.Crossing.{crosses}
use denote.Param.Send.{sendable}
use Rattle.std.proofs.Common.{◌∙◌, ap, sym}
use Rattle.kernel_core.specs.Kernel.{History}
use Rattle.kernel_core.specs.Start.{Inputs, thread_count}
use Rattle.process_core.proofs.Handing.{all_new, start_turn}
use Rattle.process_core.specs.declared.opened.Opened.{Opened}
use Rattle.process_core.proofs.process.Process.open.Goals as goal

pub new-requires-2-send-S : goal.new-requires-2-send-S
new-requires-2-send-S g c κs within = let s = c.type_bounds.send-W in search (sendable, crosses, guarded_send, guarded_sync) depth 80 fits 20000

pub new-requires-2-sync-S : goal.new-requires-2-sync-S
new-requires-2-sync-S g c κs within = let s = c.type_bounds.sync-W in search (sendable, crosses, guarded_send, guarded_sync) depth 80 fits 20000

pub hand_out-requires-clause-turns : goal.hand_out-requires-clause-turns
hand_out-requires-clause-turns g c κs within t turn at =
    start_turn c.args.kernel _ t turn c.requires.fresh (ap (λ (o : Opened). o.inputs) c.in_ok-gate.ensures.name ∙ ap (λ (h : History). h.inputs) (c.guard.ensures.kernel ∙ c.in_ok-kernel.ensures.ok)) (c.in_ok-turns.ensures.turns t turn at)

pub returns-clause-all : goal.returns-clause-all
returns-clause-all g c =
    all_new c.in_ok-gate.gate c.in_ok-passes-2.passes.items
    (c.in_ok-passes-2.ensures.count ∙ (c.in_ok-gate.ensures.seats.1 ∙ (c.thread_count-threads.ensures.count ∙ ap (λ (i : Inputs). thread_count i) (sym (ap (λ (o : Opened). o.inputs) c.in_ok-gate.ensures.name ∙ ap (λ (h : History). h.inputs) (c.guard.ensures.kernel ∙ c.in_ok-kernel.ensures.ok))))))
    c.in_ok-passes-2.ensures.new
