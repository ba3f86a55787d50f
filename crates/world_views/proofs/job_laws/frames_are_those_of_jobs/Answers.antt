use Rattle.world_views.proofs.Using.{used-apart, used-together, used_by-alike, used_by-home}
use Rattle.world_views.proofs.job_laws.frames_are_those_of_jobs.Goals as goal

pub returns-clause-alike : goal.returns-clause-alike
returns-clause-alike c = used_by-alike

pub returns-clause-together : goal.returns-clause-together
returns-clause-together c home jobs w keeps = used-together home w keeps jobs

pub returns-clause-apart : goal.returns-clause-apart
returns-clause-apart c = used-apart

pub returns-clause-homes : goal.returns-clause-homes
returns-clause-homes c = used_by-home
