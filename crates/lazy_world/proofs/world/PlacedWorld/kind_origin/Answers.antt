use Rattle.std.proofs.Common.{ap, sym, ◌∙◌}
use Rattle.lazy_world.specs.Clones.{kind_origin}
use Rattle.lazy_world.specs.Transfers.{copied_origin}
use Rattle.lazy_world.specs.Worlds.{parts}
use Rattle.lazy_world.proofs.world.PlacedWorld.kind_origin.Goals as goal

pub returns-in-Some : goal.returns-in-Some
returns-in-Some c = ap copied_origin (sym c.in-Some.is ∙ c.group_place.ensures.place) ∙ ap (kind_origin (parts c.args.self.now) c.args.from) (sym c.in-Common.is)

pub returns-in-None : goal.returns-in-None
returns-in-None c = ap copied_origin (sym c.in-None.is ∙ c.group_place.ensures.place) ∙ ap (kind_origin (parts c.args.self.now) c.args.from) (sym c.in-Common.is)
