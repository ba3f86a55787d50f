use Rattle.world_views.proofs.BlankAlike.{calls-alike}
use Rattle.world_views.proofs.blank_call_laws.calls_from_outside_are_alike.Goals as goal

pub returns : goal.returns
returns c = calls-alike
