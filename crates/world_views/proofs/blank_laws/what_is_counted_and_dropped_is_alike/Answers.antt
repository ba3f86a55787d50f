use Rattle.world_views.proofs.BlankChanges.{blanks-alike}
use Rattle.world_views.proofs.blank_laws.what_is_counted_and_dropped_is_alike.Goals as goal

pub returns : goal.returns
returns c = blanks-alike
