use denote.Param.Send.{sendable}
use Rattle.std.proofs.Common.{◌∙◌, sym, ap, arith}
use Rattle.process_core.proofs.Offers.{same_map}
use Rattle.process_core.proofs.Sends.{carried_send, process_sync}
use Rattle.process_core.proofs.Carrying.{all_zip, carries_there}
use Rattle.process_core.proofs.carrier.carry_all.Goals as goal

pub for_each_mut-requires-send-T : goal.for_each_mut-requires-send-T
for_each_mut-requires-send-T g c κs within =
    let s = c.type_bounds.send-W in
    search (sendable, carried_send) depth 80 fits 20000

pub for_each_mut-requires-sync-F : goal.for_each_mut-requires-sync-F
for_each_mut-requires-sync-F g c κs within =
    let s = c.type_bounds.send-W in
    let r = c.type_bounds.sync-R in
    let q = c.type_bounds.sync-G in
    search (sendable, process_sync) depth 80 fits 20000

pub returns-clause-numbers : goal.returns-clause-numbers
returns-clause-numbers g c =
    same_map (λ x. x.pass.held.number) _ _ (omega arith)
    (λ i d below. let r = (c.for_each_mut.ensures i d below).1 in
    ap (λ x. x.pass.held.number) (sym r.left) ∙ (r.call.1 ∙ ap (λ x. x.pass.held.number) r.argument_is))

pub returns-clause-carries : goal.returns-clause-carries
returns-clause-carries g c =
    all_zip _ _ _ (omega arith)
    (λ i d below. let r = (c.for_each_mut.ensures i d below).1 in
    carries_there g.T.CountsTurns.counts c.args.process.now (λ x. x.pass) (λ x. x.turns) _ _ _ _ r.argument_is r.left r.call.3)
