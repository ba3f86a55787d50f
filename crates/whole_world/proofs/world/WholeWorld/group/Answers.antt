use Rattle.std.proofs.Common.{◌≡◌}
use Rattle.lwc_base.specs.World.{group}
use Rattle.whole_world.specs.Rows.{group_of}
use Rattle.whole_world.specs.Sound.{IsWholeGroup}
use Rattle.whole_world.specs.States.{world_of}
use Rattle.whole_world.specs.Worlds.{seen}
use Rattle.whole_world.proofs.Worlds.{group-found, group-missed, if_found, if_missed, whole_group-found}
use Rattle.whole_world.proofs.world.WholeWorld.group.Goals as goal

pub returns-clause-found : goal.returns-clause-found
unfolding seen
returns-clause-found c =
    if_found (λ row. group (seen c.args.self.now) c.args.group_name ≡ group_of row) _ _ c.get.ensures (group-found _ _ _ _ c.args.self.now.sound c.args.group_name)

pub returns-clause-whole : goal.returns-clause-whole
unfolding seen world_of
returns-clause-whole c =
    if_found (IsWholeGroup (seen c.args.self.now).size.pages) _ _ c.get.ensures (whole_group-found _ _ _ _ c.args.self.now.sound c.args.group_name)

pub returns-clause-missed : goal.returns-clause-missed
unfolding seen
returns-clause-missed c = if_missed _ _ _ c.get.ensures (group-missed _ _ _ _ c.args.self.now.sound c.args.group_name)
