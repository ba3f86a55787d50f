use Rattle.lwc_guard.proofs.Promised.{are_given_back, guarded_run}
use Rattle.lwc_guard.proofs.laws.guarded_runs_give_threads_back.Goals as goal

pub returns : goal.returns
returns c = record { steps = are_given_back; kept = guarded_run }
