use Rattle.std.proofs.Common.{◌∙◌, subst, sym}
use Rattle.lwc_base.specs.declared.cell.Cell.TheVariants.{Own}
use Rattle.lwc_base.specs.Cells.{put_at, with_cell}
use Rattle.lwc_base.specs.Fresh.{IsFresh}
use Rattle.whole_world.specs.KeyValues.{key_in, value_in}
use Rattle.whole_world.specs.States.{world_of}
use Rattle.whole_world.specs.Worlds.{seen}
use Rattle.whole_world.proofs.Keyed.{put-own}
use Rattle.whole_world.proofs.Worlds.{change_context-at, change_context-missed, has_key, sound-at, still_whole, whole-at}
use Rattle.lwc_base.proofs.Facts.{stays_fresh}
use Rattle.whole_world.proofs.world.WholeWorld.put_own.Goals as goal

pub put-requires : goal.put-requires
unfolding seen world_of
put-requires c =
    let whole = whole-at _ _ _ _ c.args.self.now.sound c.args.of_context c.in-Some.i _ (sym c.position.ensures ∙ c.in-Some.is) c.index_mut.ensures.value in
    has_key _ _ _ (key_in c.args.value) whole.pages whole.slots c.requires.within

pub invariant_of-self : goal.invariant_of-self
unfolding seen put_at
invariant_of-self c =
    let found = sym c.position.ensures ∙ c.in-Some.is in
    record {
      sound = sound-at _ _ _ _ c.args.self.now.sound c.args.of_context c.in-Some.i _ found c.index_mut.ensures.value c.put.new.self (with_cell (key_in c.args.value) (Own (value_in c.args.value)))
          c.put.ensures.context
          (still_whole _ _ _ (whole-at _ _ _ _ c.args.self.now.sound c.args.of_context c.in-Some.i _ found c.index_mut.ensures.value) c.put.ensures.size)
          (subst IsFresh (put-own _ c.args.of_context (key_in c.args.value) (value_in c.args.value) _ c.requires.own)
          (stays_fresh.put _ c.args.of_context (key_in c.args.value) (value_in c.args.value) c.args.self.now.sound.fresh));
    }

pub returns-in-Some : goal.returns-in-Some
unfolding seen put_at
returns-in-Some c =
    change_context-at _ _ _ _ c.args.self.now.sound c.args.of_context c.in-Some.i _ (sym c.position.ensures ∙ c.in-Some.is) c.index_mut.ensures.value c.put.new.self _ c.put.ensures.context
    ∙ sym (put-own _ c.args.of_context (key_in c.args.value) (value_in c.args.value) _ c.requires.own)

pub returns-in-None : goal.returns-in-None
unfolding seen put_at
returns-in-None c =
    change_context-missed _ _ _ _ c.args.self.now.sound c.args.of_context _ (sym c.position.ensures ∙ c.in-None.is)
    ∙ sym (put-own _ c.args.of_context (key_in c.args.value) (value_in c.args.value) _ c.requires.own)
