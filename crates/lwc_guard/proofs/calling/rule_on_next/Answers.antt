use Rattle.std.proofs.Common.{◌≡◌, ◌≢◌, ◌∙◌, ℕ, Option, ap, refl, rules, subst, sym}
use Rattle.std.specs.Prelude.{IfSome}
use Rattle.guest_isa.specs.declared.op.Op.TheVariants.{Sys}
use Rattle.kernel_core.specs.Step.{beside, with_regs}
use Rattle.lwc_guard.proofs.Ruled.{call-is, called, ruled-next, uncalled}
use Rattle.lwc_guard.specs.Calls.{calls_guarded, guards_after_call}
use Rattle.lwc_guard.specs.declared.calling.Ruling.{Ruling}
use Rattle.lwc_monitor.specs.Calls.{calls_under, traps_after_call}
use Rattle.lwc_guard.proofs.calling.rule_on_next.Goals as goal

pub returns-in-Shared-clause-outcome : goal.returns-in-Shared-clause-outcome
returns-in-Shared-clause-outcome g c io =
    let is : c.in-Shared.i.op ≡ Sys = search (rules, c.eq.ensures, c.if-eq.true) in
    let e = beside (g.W.World.seen c.args.world.now) io in
    let x = with_regs c.args.thread.now c.args.advance.now.after in
    called (calls_guarded c.args.traps.now c.args.guards.now) c.args.thread_number e x c.args.advance.now.next c.in-Shared.i c.in-Shared.is is
    ∙ c.rule_on.ensures.outcome io x refl refl
    ∙ ruled-next c.args.traps.now c.rule_on.result c.args.thread_number e x c.args.advance.now.next c.in-Shared.i c.in-Shared.is is

pub returns-in-Shared-clause-guards : goal.returns-in-Shared-clause-guards
returns-in-Shared-clause-guards g c =
    let is : c.in-Shared.i.op ≡ Sys = search (rules, c.eq.ensures, c.if-eq.true) in
    let x = with_regs c.args.thread.now c.args.advance.now.after in
    ap (guards_after_call c.args.traps.now c.args.guards.now c.args.thread_number (g.W.World.seen c.args.world.now) x) (call-is c.args.advance.now.next c.in-Shared.i c.in-Shared.is is)
    ∙ c.rule_on.ensures.guards x refl refl

pub returns-in-Shared-clause-traps : goal.returns-in-Shared-clause-traps
returns-in-Shared-clause-traps g c =
    let is : c.in-Shared.i.op ≡ Sys = search (rules, c.eq.ensures, c.if-eq.true) in
    let x = with_regs c.args.thread.now c.args.advance.now.after in
    subst (λ (o : Option ℕ). IfSome c.rule_on.result (λ (r : Ruling). traps_after_call c.args.traps.now (g.W.World.seen c.args.world.now) x o ≡ c.args.traps.now))
    (sym (call-is c.args.advance.now.next c.in-Shared.i c.in-Shared.is is)) (c.rule_on.ensures.traps x)

pub returns-in_default-clause-outcome : goal.returns-in_default-clause-outcome
returns-in_default-clause-outcome g c io =
    let other : c.in-Shared.i.op ≢ Sys = search (rules, c.eq.ensures, c.if-eq.false) in
    uncalled (calls_guarded c.args.traps.now c.args.guards.now) (calls_under c.args.traps.now) c.args.thread_number (beside (g.W.World.seen c.args.world.now) io)
    (with_regs c.args.thread.now c.args.advance.now.after) c.args.advance.now.next c.in-Shared.i c.in-Shared.is other
