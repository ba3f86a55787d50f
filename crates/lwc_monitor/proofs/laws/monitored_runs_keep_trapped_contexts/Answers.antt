use Rattle.lwc_monitor.proofs.Promised.{are_monitored, monitored_run}
use Rattle.lwc_monitor.proofs.laws.monitored_runs_keep_trapped_contexts.Goals as goal

pub returns : goal.returns
returns c = record { steps = are_monitored; kept = monitored_run }
