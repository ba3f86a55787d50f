use Rattle.std.proofs.Common.{arith}
use Rattle.std.specs.Prelude.{◌==◌}
use Rattle.std.proofs.lemmas.List.Sums.{count_by-le-length}
use Rattle.lwc_types.specs.declared.name.Name.{Name}
use Rattle.whole_world.specs.declared.group_row.GroupRow.{GroupRow}
use Rattle.whole_world.specs.Worlds.{seen}
use Rattle.whole_world.proofs.RowCounts.{groups_of-rows}
use Rattle.whole_world.proofs.world.WholeWorldWorld.groups_of.Goals as goal

pub returns : goal.returns
unfolding seen
returns c =
    let sound = c.args.self.now.sound in
    let few = count_by-le-length (λ (row : Name × GroupRow). row.0.job == c.args.job) c.args.self.now.groups.rows.items in
    record { value = omega (arith, groups_of-rows _ _ _ _ sound c.args.job, c.count_of.ensures, few, sound.few_groups, sound.size_groups) }
