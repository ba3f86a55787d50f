use Rattle.world_views.proofs.Keeping.{add-keeps, changes-keep, value_at-in}
use Rattle.world_views.proofs.Together.{reap-keeps}
use Rattle.world_views.proofs.job_laws.each_job_keeps_what_is_its_own.Goals as goal

pub returns-clause-changes : goal.returns-clause-changes
returns-clause-changes c = changes-keep

pub returns-clause-add : goal.returns-clause-add
returns-clause-add c = add-keeps

pub returns-clause-reap : goal.returns-clause-reap
returns-clause-reap c = reap-keeps

pub returns-clause-value : goal.returns-clause-value
returns-clause-value c home d k w keeps = value_at-in home w keeps d k
