use Rattle.lwc_base.proofs.Slots.{lowest_is_empty_slot}
use Rattle.lwc_switch.proofs.switching.switch.Goals as goal

pub enter-requires-clause-within : goal.enter-requires-clause-within
enter-requires-clause-within g c κs bounds = (lowest_is_empty_slot _ _ _ c.in-Ok.ensures.lowest).0
