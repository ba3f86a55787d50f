use Rattle.lwc_base.proofs.Jobs.{root_of_job}
use Rattle.lwc_base.proofs.laws.jobs.only_jobs_with_a_root_are_reached.Goals as goal

pub returns : goal.returns
returns c = root_of_job
