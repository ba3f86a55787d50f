use Rattle.std.proofs.Common.{rules, ap, sym, ◌∙◌, ◌≡◌, ◌≢◌}
use Rattle.guest_isa.specs.declared.op.Op.TheVariants.{Sys}
use Rattle.kernel_core.specs.Step.{beside, guest_calls, next_outcome, shared_outcome}
use Rattle.lwc_monitor.proofs.Rulings.{a_call, no_call}
use Rattle.lwc_monitor.specs.Calls.{calls_under}
use Rattle.lwc_monitor.proofs.ruling.rule_on_instr.Goals as goal

pub returns-then-ne-clause-outcome : goal.returns-then-ne-clause-outcome
unfolding next_outcome
returns-then-ne-clause-outcome g c t io =
    let other : c.args.instruction.now.op ≢ Sys = search (rules, c.ne.ensures, c.if-ne.true) in
    no_call (calls_under c.args.traps.now) guest_calls t (beside (g.W.World.seen c.args.world.now) io) c.args.thread.now c.args.instruction.now c.args.instruction.now.op other

pub returns-in-None-clause-outcome : goal.returns-in-None-clause-outcome
unfolding shared_outcome
returns-in-None-clause-outcome g c t io =
    let is : c.args.instruction.now.op ≡ Sys = search (rules, c.ne.ensures, c.if-ne.false) in
    let e = beside (g.W.World.seen c.args.world.now) io in
    ap (λ op. shared_outcome (calls_under c.args.traps.now) t e c.args.thread.now c.args.instruction.now op) is
    ∙ c.in-None.ensures.outcome t io
    ∙ sym (a_call guest_calls t e c.args.thread.now c.args.instruction.now is)
