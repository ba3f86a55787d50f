use Rattle.std.proofs.Common.{◌∙◌, ap}
use Rattle.lwc_base.specs.World.{World, is_live}
use Rattle.lwc_base.proofs.Facts.{changes}
use Rattle.world_suite.proofs.calls.change_one.Goals as goal

pub is_link-stays-requires-clause-live : goal.is_link-stays-requires-clause-live
is_link-stays-requires-clause-live g c κs within =
    ap (λ (w : World). is_live w c.args.context) c.set_slot.ensures.put
    ∙ (changes.put (g.W.World.seen c.args.world.now) _ _ _).live c.args.context ∙ c.requires
