use Rattle.std.proofs.Common.{◌<◌, length, arith}
use Rattle.lwc_debug.proofs.Going.{gone_on}
use Rattle.lwc_debug.proofs.debugging.go_on.Goals as goal

pub steps-preserved : goal.steps-preserved
steps-preserved g c =
    let inside : c.steps.i < length c.args.steps.now = omega arith in
    gone_on _ _ _ _ _ c.from.result c.steps.invariant inside c.from.ensures c.requires.legal c.in_ok-make_step.ensures.step c.in_ok-make_step.ensures.room
