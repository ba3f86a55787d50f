use Rattle.std.proofs.Common.{◌∙◌, ap}
use Rattle.lwc_base.specs.World.{World, is_live}
use Rattle.lwc_create.proofs.StillLive.{live_after_clone}
use Rattle.lwc_base.proofs.Slots.{lowest_is_empty_slot}
use Rattle.lwc_create.proofs.creating.create.Goals as goal

pub set_slot-requires-clause-live : goal.set_slot-requires-clause-live
set_slot-requires-clause-live g c =
    ap (λ (w : World). is_live w c.args.context) c.in_ok-name.ensures.cloned
    ∙ live_after_clone _ _ _ _ _ _ c.requires.live

pub set_slot-requires-clause-within : goal.set_slot-requires-clause-within
set_slot-requires-clause-within g c = (lowest_is_empty_slot _ _ _ c.in-Ok.ensures.passed.room.lowest).0
