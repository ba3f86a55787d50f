use Rattle.std.proofs.Common.{◌∙◌, sym}
use Rattle.lwc_base.specs.Life.{Root}
use Rattle.lazy_world.proofs.world.PlacedWorld.is_near.Goals as goal

pub returns-then-is_among : goal.returns-then-is_among
returns-then-is_among c _ = Root c.args.context (sym c.is_among.ensures ∙ c.if-is_among.true)
