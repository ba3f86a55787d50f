use Rattle.std.proofs.Common.{ap, arith, ◌∙◌, sym, subst, List}
use Rattle.std.specs.FinMap as fm
use Rattle.lwc_base.specs.Modes.{IsSpec}
use Rattle.lwc_types.specs.declared.name.Name.{Name}
use Rattle.lwc_types.specs.declared.size.WorldSize.{WorldSize}
use Rattle.whole_world.specs.declared.group_row.GroupRow.{GroupRow}
use Rattle.whole_world.specs.Sound.{IsSound, IsWholeGroup}
use Rattle.whole_world.specs.States.{world_of}
use Rattle.whole_world.specs.Worlds.{seen}
use Rattle.whole_world.proofs.ShareSteps.{counted-live, counted-named, counted-size, left-groups, left-named, left-new, left-size, share-steps}
use Rattle.whole_world.proofs.Worlds.{fresh-seen, missed-group, put-group, sound-added_group}
use Rattle.whole_world.proofs.world.WholeWorld.share_into.Goals as goal

pub move_out-requires-clause-within : goal.move_out-requires-clause-within
move_out-requires-clause-within c =
    subst (λ (s : WorldSize). IsSpec s.pages c.args.spec.now) (sym (counted-size (seen c.args.self.now) (seen c.count_group.new.self) c.args.job c.count_group.ensures.world)) c.requires.within

pub move_out-requires-clause-counted : goal.move_out-requires-clause-counted
move_out-requires-clause-counted c =
    counted-named (seen c.args.self.now) (seen c.count_group.new.self) c.args.job c.count_group.ensures.world c.next_group-name.result c.next_group-name.ensures

pub move_out-requires-clause-whole : goal.move_out-requires-clause-whole
move_out-requires-clause-whole c =
    subst (λ (s : WorldSize). IsWholeGroup s.pages c.args.group) (sym (counted-size (seen c.args.self.now) (seen c.count_group.new.self) c.args.job c.count_group.ensures.world)) c.requires.whole

pub move_out-requires-clause-live : goal.move_out-requires-clause-live
move_out-requires-clause-live c =
    counted-live (seen c.args.self.now) (seen c.count_group.new.self) c.args.job c.count_group.ensures.world c.args.context ∙ c.requires.live

pub insert-requires-clause-new : goal.insert-requires-clause-new
unfolding seen
insert-requires-clause-new c =
    missed-group _ _ _ _ c.move_out.new.self.sound c.next_group-name.result
    (left-new (seen c.args.self.now) (seen c.count_group.new.self) c.args.job c.count_group.ensures.world (seen c.move_out.new.self) c.args.context _ c.move_out.ensures.world
    c.next_group-name.result (fresh-seen c.args.self.now) c.next_group-name.ensures)

pub invariant_of-self : goal.invariant_of-self
unfolding seen world_of
invariant_of-self c =
    let old = seen c.args.self.now in
    let counted = seen c.count_group.new.self in
    let left = c.move_out.new.self in
    let same = ap fm.len (left-groups old counted c.args.job c.count_group.ensures.world (seen left) c.args.context _ c.move_out.ensures.world) in
    let counted_size = counted-size old counted c.args.job c.count_group.ensures.world in
    let size = left-size old counted c.args.job c.count_group.ensures.world (seen left) c.args.context _ c.move_out.ensures.world in
    record {
      sound = subst (λ (rows : List (Name × GroupRow)). IsSound left.size left.contexts.rows.items rows left.counts.items) (sym c.insert.ensures)
          (sound-added_group _ _ _ _ left.sound c.next_group-name.result c.move_out.new.group
          (left-named old counted c.args.job c.count_group.ensures.world (seen left) c.args.context _ c.move_out.ensures.world c.next_group-name.result c.next_group-name.ensures)
          (subst (λ (s : WorldSize). IsWholeGroup s.pages c.move_out.new.group) (counted_size ∙ sym size) c.move_out.ensures.whole)
          (omega (arith, same, ap (λ (s : WorldSize). s.groups) size, c.requires.place)));
    }

pub returns-clause-world : goal.returns-clause-world
unfolding seen
returns-clause-world c =
    let left = c.move_out.new.self in
    share-steps (seen c.args.self.now) (seen c.count_group.new.self) (seen left) _ c.args.context c.args.job c.args.spec.now
    c.next_group-name.result _ c.requires.needed c.next_group-name.ensures c.move_out.ensures.group
    c.count_group.ensures.world c.move_out.ensures.world
    (ap (λ (rows : List (Name × GroupRow)). world_of left.size left.contexts.rows.items rows left.counts.items) c.insert.ensures
    ∙ put-group _ _ _ _ left.sound c.next_group-name.result c.move_out.new.group)
