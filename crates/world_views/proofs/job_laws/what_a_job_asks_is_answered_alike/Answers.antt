use Rattle.world_views.proofs.Together.{answers-alike}
use Rattle.world_views.proofs.job_laws.what_a_job_asks_is_answered_alike.Goals as goal

pub returns : goal.returns
returns c = answers-alike
