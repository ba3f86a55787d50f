use Rattle.kernel_core.specs.Step.{beside}
use Rattle.lwc_monitor.proofs.Courses.{advance-again, kernel-course, ruled-course}
use Rattle.lwc_monitor.proofs.stepping.run_under.Goals as goal

pub step_thread-requires-clause-proposal : goal.step_thread-requires-clause-proposal
step_thread-requires-clause-proposal g c κs within = advance-again c.args.text.now _ c.args.advance.now c.requires.advance

pub returns-in-None-clause-outcome : goal.returns-in-None-clause-outcome
returns-in-None-clause-outcome g c =
    kernel-course c.args.traps.now c.args.thread_number (beside (g.W.World.seen c.args.world.now) c.args.io.now) c.args.text.now c.args.thread.now c.args.advance.now c.requires.advance
    c.step_thread.result _ _ _ c.requires.running (c.in-None.ensures.outcome c.args.thread_number c.args.io.now) c.step_thread.ensures.outcome

pub returns-in-Some-clause-outcome : goal.returns-in-Some-clause-outcome
returns-in-Some-clause-outcome g c =
    ruled-course c.args.traps.now c.args.thread_number (beside (g.W.World.seen c.args.world.now) c.args.io.now) c.args.text.now c.args.thread.now c.args.advance.now c.requires.advance
    c.in-Some.ruling c.in-Some.number _ _ _ c.carry_out-change.result (c.in-Some.ensures.outcome c.args.thread_number c.args.io.now) (c.carry_out-change.ensures.outcome c.args.io.now) c.set_steps.ensures
