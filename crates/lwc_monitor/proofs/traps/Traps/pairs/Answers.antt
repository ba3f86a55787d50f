use Rattle.std.proofs.Common.{sym, ◌∙◌}
use Rattle.lwc_monitor.proofs.Pairs.{entries-are}
use Rattle.lwc_monitor.proofs.traps.Traps.pairs.Goals as goal

pub returns : goal.returns
returns c = rw (← c.self.view_is) (c.as_slice.ensures.value ∙ sym (entries-are _ c.self.invariant.0))
