use Rattle.std.proofs.Common.{sym, ap, ◌∙◌}
use Rattle.turnstile.proofs.Passing.{first_ours, rest_ours, kept_numbers}
use Rattle.turnstile.proofs.Ends.{all_knowing}
use Rattle.turnstile.proofs.lock.Turnstile.close.Goals as goal

pub join_all-first-requires-clause-shared : goal.join_all-first-requires-clause-shared
join_all-first-requires-clause-shared g c κs within =
    let ours = first_ours g.P.HoldsPass.held c.args.self c.args.passes.items c.take_first-first.result _ c.requires c.take_first-first.ensures.others in
    (ours.0 ∙ sym (ap (λ t. t.table) c.self.view_is), c.self.invariant.1, c.self.invariant.2)

pub join_all-first-requires-clause-others : goal.join_all-first-requires-clause-others
join_all-first-requires-clause-others g c κs within = λ k d below.
    (rest_ours g.P.HoldsPass.held c.args.self c.args.passes.items c.take_first-first.result _ c.requires c.take_first-first.ensures.others k d below).0 ∙ sym (ap (λ t. t.table) c.self.view_is)

pub settle-requires-clause-seat : goal.settle-requires-clause-seat
settle-requires-clause-seat g c κs within =
    let ours = first_ours g.P.HoldsPass.held c.args.self c.args.passes.items c.take_first-first.result _ c.requires c.take_first-first.ensures.others in
    (ap (λ p. p.table) c.join_all-first.ensures.seat ∙ (ours.0 ∙ sym (ap (λ t. t.table) c.self.view_is)), (c.self.invariant.1, c.self.invariant.2))

pub settle-requires-clause-all : goal.settle-requires-clause-all
settle-requires-clause-all g c κs within =
    let parts = c.take_first-first.ensures in
    let ours = first_ours g.P.HoldsPass.held c.args.self c.args.passes.items c.take_first-first.result _ c.requires parts.others in
    kept_numbers g.P.HoldsPass.held c.args.self c.args.passes.items c.take_first-first.result _ c.requires parts.others c.join_all-first.result.me.0.joined c.join_all-first.ensures.joined parts.first _
    (ap (λ p. p.made) c.join_all-first.ensures.seat ∙ ours.2 parts.first)

pub returns-clause-seen : goal.returns-clause-seen
returns-clause-seen g c = λ k d below.
    (all_knowing g.S.Turned.name g.S.Turned.past g.P.HoldsPass.held _ c.args.passes.items c.take_first-first.result _ c.join_all-first.result c.settle.result c.join_all-first.ensures.seat c.join_all-first.ensures.joined c.settle.ensures c.take_first-first.ensures.others k d below).0

pub returns-clause-noted : goal.returns-clause-noted
returns-clause-noted g c = λ k d below.
    (all_knowing g.S.Turned.name g.S.Turned.past g.P.HoldsPass.held _ c.args.passes.items c.take_first-first.result _ c.join_all-first.result c.settle.result c.join_all-first.ensures.seat c.join_all-first.ensures.joined c.settle.ensures c.take_first-first.ensures.others k d below).1
