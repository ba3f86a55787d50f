use Rattle.std.proofs.Common.{◌∙◌, ap, sym}
use Rattle.lwc_base.specs.Cells.{value_at, value_of}
use Rattle.lwc_base.specs.World.{Context}
use Rattle.lwc_types.specs.declared.key.Key.TheVariants.{Cred}
use Rattle.lazy_world.specs.Worlds.{parts, seen}
use Rattle.lazy_world.proofs.world.PlacedWorld.uid.Goals as goal

pub returns-in-Own : goal.returns-in-Own
unfolding value_at parts
returns-in-Own c =
    ap (value_of (seen c.args.self.now) Cred) (sym c.in-Own.is ∙ c.uid.ensures ∙ ap (λ (x : Context). x.cell Cred) (sym c.place.ensures.context))

pub returns-in-Common : goal.returns-in-Common
unfolding value_at parts
returns-in-Common c =
    c.group_uid.ensures
    ∙ ap (value_of (seen c.args.self.now) Cred) (sym c.in-Common.is ∙ c.uid.ensures ∙ ap (λ (x : Context). x.cell Cred) (sym c.place.ensures.context))
