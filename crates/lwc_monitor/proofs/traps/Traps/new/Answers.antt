use Rattle.lwc_monitor.proofs.Pairs.{no_rows}
use Rattle.lwc_monitor.proofs.traps.Traps.new.Goals as goal

pub returns : goal.returns
returns c = rw c.in_ok-pairs.ensures.items no_rows
