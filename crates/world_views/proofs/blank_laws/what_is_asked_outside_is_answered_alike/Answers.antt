use Rattle.world_views.proofs.BlankChanges.{asks-alike}
use Rattle.world_views.proofs.blank_laws.what_is_asked_outside_is_answered_alike.Goals as goal

pub returns : goal.returns
returns c = asks-alike
