use Rattle.lwc_monitor.proofs.Pairs.{no_rows}
use Rattle.lwc_guard.proofs.guards.Guards.new.Goals as goal

pub returns : goal.returns
returns c = rw c.in_ok-rows.ensures.items no_rows
