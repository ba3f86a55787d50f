use Rattle.std.proofs.Common.{sym, ◌∙◌}
use Rattle.lwc_base.proofs.Slots.{lowest_is_empty_slot}
use Rattle.lwc_guard.proofs.giving.way_back.Goals as goal

pub returns-in-Some-clause-within : goal.returns-in-Some-clause-within
returns-in-Some-clause-within g c = (lowest_is_empty_slot _ _ _ (sym c.lowest_empty.ensures.lowest ∙ c.in-Some.is)).0
