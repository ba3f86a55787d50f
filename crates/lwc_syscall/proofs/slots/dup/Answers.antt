use Rattle.std.proofs.Common.{sym}
use Rattle.lwc_base.proofs.Slots.{lowest_is_empty_slot}
use Rattle.lwc_syscall.proofs.slots.dup.Goals as goal

pub dup_slot-requires-clause-to : goal.dup_slot-requires-clause-to
dup_slot-requires-clause-to g c = (lowest_is_empty_slot _ _ _ (sym c.in-Some-lowest_empty.ensures.lowest)).0
