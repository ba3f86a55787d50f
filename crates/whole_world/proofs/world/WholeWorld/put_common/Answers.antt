use Rattle.std.proofs.Common.{◌∙◌, sym}
use Rattle.lwc_base.specs.Cells.{with_value}
use Rattle.whole_world.specs.KeyValues.{key_in, value_in}
use Rattle.whole_world.specs.States.{world_of}
use Rattle.whole_world.specs.Worlds.{seen}
use Rattle.whole_world.proofs.Worlds.{change_group-at, change_group-missed, has_key, sound-group_at, still_whole_group, whole_group-at}
use Rattle.whole_world.proofs.world.WholeWorld.put_common.Goals as goal

pub put-requires : goal.put-requires
unfolding seen world_of
put-requires c =
    let whole = whole_group-at _ _ _ _ c.args.self.now.sound c.args.group c.in-Some.i _ (sym c.position.ensures ∙ c.in-Some.is) c.index_mut.ensures.value in
    has_key _ _ _ (key_in c.args.value) whole.pages whole.slots c.requires

pub invariant_of-self : goal.invariant_of-self
invariant_of-self c =
    let found = sym c.position.ensures ∙ c.in-Some.is in
    record {
      sound = sound-group_at _ _ _ _ c.args.self.now.sound c.args.group c.in-Some.i _ found c.index_mut.ensures.value c.put.new.self (with_value (key_in c.args.value) (value_in c.args.value))
          c.put.ensures.group
          (still_whole_group _ _ _ (whole_group-at _ _ _ _ c.args.self.now.sound c.args.group c.in-Some.i _ found c.index_mut.ensures.value) c.put.ensures.size);
    }

pub returns-in-Some : goal.returns-in-Some
unfolding seen
returns-in-Some c =
    change_group-at _ _ _ _ c.args.self.now.sound c.args.group c.in-Some.i _ (sym c.position.ensures ∙ c.in-Some.is) c.index_mut.ensures.value c.put.new.self _ c.put.ensures.group

pub returns-in-None : goal.returns-in-None
unfolding seen
returns-in-None c = change_group-missed _ _ _ _ c.args.self.now.sound c.args.group _ (sym c.position.ensures ∙ c.in-None.is)
