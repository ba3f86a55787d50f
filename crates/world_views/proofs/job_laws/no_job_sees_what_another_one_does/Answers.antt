use Rattle.world_views.proofs.Keeping.{changes-hidden}
use Rattle.world_views.proofs.Together.{reap-hidden}
use Rattle.world_views.proofs.Views.{hidden-add_context}
use Rattle.world_views.proofs.job_laws.no_job_sees_what_another_one_does.Goals as goal

pub returns-clause-changes : goal.returns-clause-changes
returns-clause-changes c home job t d w other keeps = changes-hidden home d w keeps job t other

pub returns-clause-add : goal.returns-clause-add
returns-clause-add c i job t w x other = hidden-add_context job t i w x other

pub returns-clause-reap : goal.returns-clause-reap
returns-clause-reap c = reap-hidden
