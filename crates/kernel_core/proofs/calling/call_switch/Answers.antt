use Rattle.std.proofs.Common.{sym, subst}
use Rattle.kernel_core.proofs.Reaping.{leaves_switched}
use Rattle.kernel_core.specs.Changes.{LeavesNothing}
use Rattle.lwc_base.specs.World.{World}
use Rattle.lwc_switch.proofs.Accepted.{accepted}
use Rattle.kernel_core.proofs.calling.call_switch.Goals as goal

pub returns-in-To-clause-kept : goal.returns-in-To-clause-kept
returns-in-To-clause-kept g c =
    let ready = c.requires.ready in
    let went = accepted _ _ _ _ ready.named ready.live _ _ _ c.in-To.ensures.done in
    subst (λ (v : World). LeavesNothing (g.W.World.seen c.args.world.now) c.args.thread.now.context v c.in-To.context) (sym went.made)
    (leaves_switched _ _ _ c.args.thread_number _ went.slot _ ready.sound.groups ready.live went.live went.within went.empty)
