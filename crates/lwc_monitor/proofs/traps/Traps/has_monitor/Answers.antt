use Rattle.std.proofs.Common.{◌∙◌}
use Rattle.lwc_monitor.proofs.Pairs.{monitor-is}
use Rattle.lwc_monitor.proofs.traps.Traps.has_monitor.Goals as goal

pub returns : goal.returns
returns c =
    let found = rw c.as_slice.ensures.value at c.is_second.ensures in
    rw (← c.self.view_is) (found ∙ monitor-is _ c.self.invariant.0 c.args.context)
