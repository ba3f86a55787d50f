use Rattle.process_core.proofs.Sends.{guarded_send, guarded_sync}
use Rattle.std.proofs.Crossing.{crosses}
use denote.Param.Send.{sendable}
use Rattle.std.proofs.Common.{◌≡◌, ◌+◌, ◌∙◌, ap, length, subst, sym}
use Rattle.kernel_core.specs.Histories.{IsLegal}
use Rattle.kernel_core.specs.Kernel.{History}
use Rattle.kernel_core.specs.Start.{start, thread_count}
use Rattle.std.specs.Prelude.{All}
use Rattle.process_core.specs.Running.{Carried}
use Rattle.process_core.specs.declared.opened.Opened.{Opened}
use Rattle.turnstile.specs.Past.{Knows}
use Rattle.process_core.proofs.Completed.{all_held, completed, each_turn}
use Rattle.turnstile.specs.Passes.{Lock}
use Rattle.turnstile.specs.Passes as gates
use Rattle.process_core.proofs.process.Process.close.Goals as goal

pub close-requires-send-S : goal.close-requires-send-S
close-requires-send-S g c κs within = let s = c.type_bounds.send-W in search (sendable, crosses, guarded_send, guarded_sync) depth 80 fits 20000

pub close-requires-sync-S : goal.close-requires-sync-S
close-requires-sync-S g c κs within = let s = c.type_bounds.sync-W in search (sendable, crosses, guarded_send, guarded_sync) depth 80 fits 20000

pub close-requires-after_bounds : goal.close-requires-after_bounds
close-requires-after_bounds g c κs within =
    let seats = subst (λ (l : Lock Opened). l.seats ≡ thread_count l.name.inputs) c.self.view_is c.self.invariant.1 in
    subst (λ (l : Lock Opened). gates.HoldAllOf (λ p. p.held) l c.args.passes.items) (sym c.self.view_is) (all_held c.args.self c.args.passes.items seats c.requires)

pub returns-clause-seen : goal.returns-clause-seen
returns-clause-seen g c =
    subst (λ (h : History). All (λ (p : Carried). Knows h.steps p.held.number p.held.seen) c.args.passes.items) (sym c.into_kernel-kernel.ensures.kernel) c.close.ensures.seen

pub returns-clause-whole : goal.returns-clause-whole
returns-clause-whole g c =
    let room = ap (λ (o : Opened). o.room) (c.close.ensures.name ∙ ap (λ (l : Lock Opened). l.name) c.self.view_is) in
    subst (λ (h : History). length h.steps + h.room ≡ c.args.self.name.room) (sym c.into_kernel-kernel.ensures.kernel) (c.close.result.whole ∙ room)

pub returns-clause-turns : goal.returns-clause-turns
returns-clause-turns g c =
    let k = c.into_kernel-kernel.result in
    let same : k.inputs ≡ c.args.self.name.inputs = ap (λ (h : History). h.inputs) c.into_kernel-kernel.ensures.kernel ∙ ap (λ (o : Opened). o.inputs) (c.close.ensures.name ∙ ap (λ (l : Lock Opened). l.name) c.self.view_is) in
    each_turn c.args.self c.args.passes.items k c.requires same (returns-clause-seen g c)

pub returns-clause-complete : goal.returns-clause-complete
returns-clause-complete g c ended =
    let k = c.into_kernel-kernel.result in
    let same : k.inputs ≡ c.args.self.name.inputs = ap (λ (h : History). h.inputs) c.into_kernel-kernel.ensures.kernel ∙ ap (λ (o : Opened). o.inputs) (c.close.ensures.name ∙ ap (λ (l : Lock Opened). l.name) c.self.view_is) in
    let legal = subst (λ (h : History). IsLegal (start h.inputs) h.steps) (sym c.into_kernel-kernel.ensures.kernel) c.close.result.legal in
    completed c.args.self c.args.passes.items k c.requires same (returns-clause-seen g c) c.was_opened.ensures legal ended
