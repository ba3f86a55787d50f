use Rattle.std.proofs.Common.{ap, arith, ◌∙◌}
use Rattle.kernel_core.specs.Kernel.{History}
use Rattle.kernel_core.specs.Start.{thread_count}
use Rattle.lwc_guard.proofs.Replays.{count-is}
use Rattle.lwc_guard.proofs.replaying.guard_replay.Goals as goal

pub make_steps-requires-clause-threads : goal.make_steps-requires-clause-threads
make_steps-requires-clause-threads g c κs within = λ k d below.
    let count = ap (λ (h : History). thread_count h.inputs) c.in-Ok.ensures.opened ∙ count-is c.args.image.now c.args.settings.now c.requires.run in
    omega (arith, count, c.requires.threads k d below)
