use Rattle.std.proofs.Common.{◌∙◌, ap}
use Rattle.lwc_base.specs.World.{World, is_live}
use Rattle.lwc_switch.proofs.Saving.{live_after_save}
use Rattle.lwc_switch.proofs.switching.enter.Goals as goal

pub entered-entered-requires-clause-live : goal.entered-entered-requires-clause-live
entered-entered-requires-clause-live g c κs within =
    ap (λ (w : World). is_live w c.args.target) c.save.ensures.saved ∙ live_after_save _ _ _ _ _ c.requires.there
