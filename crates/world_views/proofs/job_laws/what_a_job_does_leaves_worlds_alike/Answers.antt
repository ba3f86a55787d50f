use Rattle.world_views.proofs.Together.{add-alike, changes-alike, new-alike, reap-alike}
use Rattle.world_views.proofs.job_laws.what_a_job_does_leaves_worlds_alike.Goals as goal

pub returns-clause-changes : goal.returns-clause-changes
returns-clause-changes c = changes-alike

pub returns-clause-add : goal.returns-clause-add
returns-clause-add c = add-alike

pub returns-clause-reap : goal.returns-clause-reap
returns-clause-reap c = reap-alike

pub returns-clause-new : goal.returns-clause-new
returns-clause-new c = new-alike
