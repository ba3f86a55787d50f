use Rattle.std.proofs.Common.{sym, subst}
use Rattle.kernel_core.proofs.Reaping.{leaves_switched}
use Rattle.kernel_core.specs.Changes.{LeavesNothing}
use Rattle.lwc_base.proofs.Slots.{lowest_is_empty_slot}
use Rattle.lwc_base.specs.World.{World}
use Rattle.lwc_monitor.proofs.stepping.enter_monitor.Goals as goal

pub enter-arrived-requires-clause-within : goal.enter-arrived-requires-clause-within
enter-arrived-requires-clause-within g c κs bounds = (lowest_is_empty_slot _ _ _ c.requires.lowest).0

pub returns-clause-kept : goal.returns-clause-kept
returns-clause-kept g c =
    let ready = c.requires.ready in
    let empty = lowest_is_empty_slot _ _ _ c.requires.lowest in
    subst (λ (v : World). LeavesNothing (g.W.World.seen c.args.world.now) c.args.thread.now.context v c.args.monitor) (sym c.enter-arrived.ensures.world)
    (leaves_switched _ _ _ c.args.thread_number _ c.args.slot _ ready.sound.groups ready.live c.requires.live empty.0 empty.1)
