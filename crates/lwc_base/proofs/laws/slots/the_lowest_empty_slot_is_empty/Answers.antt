use Rattle.lwc_base.proofs.Slots.{lowest_is_empty_slot}
use Rattle.lwc_base.proofs.laws.slots.the_lowest_empty_slot_is_empty.Goals as goal

pub returns-clause-within : goal.returns-clause-within
returns-clause-within c w a n e = (lowest_is_empty_slot w a n e).0

pub returns-clause-empty : goal.returns-clause-empty
returns-clause-empty c w a n e = (lowest_is_empty_slot w a n e).1
