use Rattle.std.proofs.Common.{◌∙◌, ap}
use Rattle.std.specs.FinMap as fm
use Rattle.std.specs.List.{list_any}
use Rattle.lwc_base.specs.Life.{names_group, reap}
use Rattle.lwc_base.specs.World.{World}
use Rattle.lazy_world.proofs.world.PlacedWorld.reap_from.Goals as goal

pub returns-then-drop_loose : goal.returns-then-drop_loose
unfolding reap
returns-then-drop_loose c =
    c.drop_groups.ensures
    ∙ ap (λ (w : World). record w { groups = fm.retain_keys w.groups (λ g. list_any (names_group w.size.pages g) (fm.values w.contexts)) })
    (c.drop_loose.ensures.done c.if-drop_loose.true)
