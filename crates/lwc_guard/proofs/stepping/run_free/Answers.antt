use Rattle.std.proofs.Common.{sym, ◌∙◌}
use Rattle.kernel_core.specs.Step.{beside}
use Rattle.lwc_guard.proofs.Courses.{free-course, left-guards, on_ok, ruled-course}
use Rattle.lwc_guard.proofs.stepping.run_free.Goals as goal

pub returns-in-None-clause-outcome : goal.returns-in-None-clause-outcome
returns-in-None-clause-outcome g c =
    free-course c.args.traps.now c.args.thread_number (beside (g.W.World.seen c.args.world.now) c.args.io.now) c.args.text.now c.args.thread.now c.advance-advance.result c.advance-advance.ensures.exact
    c.args.guards.now c.requires.unguarded c.requires.running c.run_under.result _ _ (c.in-None.ensures.outcome c.args.io.now) c.run_under.ensures.outcome

pub returns-in-None-clause-guards : goal.returns-in-None-clause-guards
returns-in-None-clause-guards g c =
    on_ok c.run_under.result (sym (left-guards c.args.traps.now c.args.thread_number (beside (g.W.World.seen c.args.world.now) c.args.io.now) c.args.text.now c.args.thread.now c.advance-advance.result c.advance-advance.ensures.exact
    c.args.guards.now c.requires.unguarded c.requires.running ∙ c.in-None.ensures.guards))

pub returns-in-Some-clause-outcome : goal.returns-in-Some-clause-outcome
returns-in-Some-clause-outcome g c =
    ruled-course c.args.traps.now c.args.thread_number (beside (g.W.World.seen c.args.world.now) c.args.io.now) c.args.text.now c.args.thread.now c.advance-advance.result c.advance-advance.ensures.exact
    c.args.guards.now c.requires.unguarded c.requires.running _ _ _ _ c.carry_out-change.result (c.in-Some.ensures.outcome c.args.io.now) (c.carry_out-change.ensures.outcome c.args.io.now) c.set_steps.ensures

pub returns-in-Some-clause-guards : goal.returns-in-Some-clause-guards
returns-in-Some-clause-guards g c =
    c.carry_out-change.ensures.guards ∙ sym (left-guards c.args.traps.now c.args.thread_number (beside (g.W.World.seen c.args.world.now) c.args.io.now) c.args.text.now c.args.thread.now c.advance-advance.result c.advance-advance.ensures.exact
    c.args.guards.now c.requires.unguarded c.requires.running ∙ c.in-Some.ensures.guards)
