use Rattle.std.proofs.Common.{arith}
use Rattle.kernel_core.specs.Kernel.{machine_of}
use Rattle.lwc_session.proofs.Workers.{ended_by_view, one_worker}
use Rattle.lwc_session.proofs.serving.has_ended.Goals as goal

pub thread-requires-after_bounds : goal.thread-requires-after_bounds
thread-requires-after_bounds g c κs within = one_worker _ c.requires

pub returns-in-Idle : goal.returns-in-Idle
returns-in-Idle g c =
    let is = ended_by_view (machine_of c.args.kernel.now) 0 c.thread.result c.thread.ensures in
    grind arith

pub returns-in-Done : goal.returns-in-Done
returns-in-Done g c =
    let is = ended_by_view (machine_of c.args.kernel.now) 0 c.thread.result c.thread.ensures in
    grind arith
