use denote.Param.Send.{sendable}
use Rattle.std.proofs.Crossing.{crosses}
use Rattle.lwc_stream.proofs.Sent.{outbox_send, signal_sync}
use Rattle.process_core.proofs.Sends.{carried_send, process_sync}
use Rattle.std.proofs.Common.{subst}
use Rattle.lwc_stream.specs.Workers.{HaveServed}
use Rattle.lwc_stream.proofs.beside.serve_in_scope.Goals as goal

pub spawn_with-started-requires-send-F : goal.spawn_with-started-requires-send-F
spawn_with-started-requires-send-F g c κs within =
    let s = c.type_bounds.send-W in
    let r = c.type_bounds.sync-R in
    let q = c.type_bounds.sync-G in
    search (sendable, crosses, carried_send, outbox_send, process_sync, signal_sync) depth 80 fits 20000

pub spawn_with-started-requires-send-T : goal.spawn_with-started-requires-send-T
spawn_with-started-requires-send-T g c κs within =
    let s = c.type_bounds.send-W in
    search (sendable, crosses, carried_send, outbox_send) depth 80 fits 20000

pub returns-in-Ok-clause-served : goal.returns-in-Ok-clause-served
returns-in-Ok-clause-served g c =
    let result = c.join.result.items in
    let kept = subst (λ p. HaveServed (λ w. w.pass) (λ w. w.turns.puts) p.process.value p.before.value.items result) c.in-Ok.ensures.ok c.join.ensures in
    subst (λ p. HaveServed (λ w. w.pass) (λ w. w.turns.puts) p c.args.workers.items result) c.of.ensures
    (subst (λ before. HaveServed (λ w. w.pass) (λ w. w.turns.puts) c.of.result.value before.items result) c.of-2.ensures kept)

pub returns-in-Err-clause-served : goal.returns-in-Err-clause-served
returns-in-Err-clause-served g c =
    subst (λ f. HaveServed (λ w. w.pass) (λ w. w.turns.puts) f.1.now f.3.items c.spawn_with-workers.result.items) c.in-Err.ensures.err c.spawn_with-workers.ensures
