use Rattle.std.proofs.Common.{ap, rules, sym, Option, ◌∙◌}
use Rattle.std.specs.FinMap as fm
use Rattle.kernel_core.specs.Step.{AfterStep, beside}
use Rattle.lwc_guard.proofs.Courses.{guarded-left}
use Rattle.lwc_guard.specs.Guards.{Guards}
use Rattle.lwc_guard.proofs.stepping.step_guarded.Goals as goal

pub returns-in_ok-effect-in-Some-clause-outcome : goal.returns-in_ok-effect-in-Some-clause-outcome
returns-in_ok-effect-in-Some-clause-outcome g c =
    ap (λ (p : Option AfterStep × Guards). p.0) (guarded-left c.args.traps.now c.args.guards.now c.args.thread_number (beside (g.W.World.seen c.args.world.now) c.args.io.now) c.args.text.now c.args.thread.now c.in-Some.found
    (sym c.guard_of.ensures ∙ c.in-Some.is) (search (rules, c.ne.ensures, c.if-ne.false)))
    ∙ c.in_ok-effect-in-Some.ensures.outcome

pub returns-in_ok-effect-in-Some-clause-guards : goal.returns-in_ok-effect-in-Some-clause-guards
returns-in_ok-effect-in-Some-clause-guards g c =
    c.set.ensures ∙ ap (fm.insert c.args.guards.now c.args.thread.now.context) c.in_ok-effect-in-Some.ensures.guard
    ∙ sym (ap (λ (p : Option AfterStep × Guards). p.1) (guarded-left c.args.traps.now c.args.guards.now c.args.thread_number (beside (g.W.World.seen c.args.world.now) c.args.io.now) c.args.text.now c.args.thread.now c.in-Some.found
    (sym c.guard_of.ensures ∙ c.in-Some.is) (search (rules, c.ne.ensures, c.if-ne.false))))
