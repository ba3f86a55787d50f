use Rattle.std.proofs.Common.{rules}
use Rattle.kernel_core.proofs.Building.{as_here, from_here}
use Rattle.kernel_core.proofs.starting.put_slots.Goals as goal

pub put_slot-requires-clause-before : goal.put_slot-requires-clause-before
put_slot-requires-clause-before g c = let here = as_here _ _ _ _ _ c.slots.invariant in search rules

pub slots-preserved : goal.slots-preserved
slots-preserved g c = from_here _ _ _ _ _ _ _ _ c.slots.invariant c.put_slot.ensures
