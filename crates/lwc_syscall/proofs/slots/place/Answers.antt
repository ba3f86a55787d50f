use Rattle.std.proofs.Common.{sym}
use Rattle.lwc_base.proofs.Slots.{lowest_is_empty_slot}
use Rattle.lwc_syscall.proofs.slots.place.Goals as goal

pub set_slot-requires-clause-within : goal.set_slot-requires-clause-within
set_slot-requires-clause-within g c = (lowest_is_empty_slot _ _ _ (sym c.in-Some.ensures.lowest)).0
