use Rattle.lwc_create.proofs.Allowed.{fewer_contexts, fewer_groups, slot_there, spec_allowed}
use Rattle.lwc_create.proofs.laws.an_accepted_call_is_within_limits.Goals as goal

pub returns : goal.returns
returns c = record { spec = spec_allowed; contexts = fewer_contexts; groups = fewer_groups; slot = slot_there }
