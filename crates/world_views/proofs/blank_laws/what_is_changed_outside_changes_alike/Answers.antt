use Rattle.world_views.proofs.BlankChanges.{changes-alike}
use Rattle.world_views.proofs.blank_laws.what_is_changed_outside_changes_alike.Goals as goal

pub returns : goal.returns
returns c = changes-alike
