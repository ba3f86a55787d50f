use Rattle.std.proofs.Common.{◌∙◌, arith, subst, sym}
use Rattle.lazy_world.specs.Sound.{IsSound}
use Rattle.lazy_world.specs.States.{world_of}
use Rattle.lazy_world.specs.Worlds.{parts, seen}
use Rattle.lazy_world.proofs.KeyLemmas.{put-group, sound-group}
use Rattle.lazy_world.proofs.WorldLemmas.{change_group-missed}
use Rattle.lazy_world.proofs.world.PlacedWorld.put_common.Goals as goal

pub put-requires-clause-place : goal.put-requires-clause-place
put-requires-clause-place c = omega (arith, c.in-Some.ensures.within, c.args.self.now.sound.sizes.groups, c.args.self.now.count)

pub invariant_of-self : goal.invariant_of-self
unfolding parts
invariant_of-self c =
    let s = parts c.args.self.now in
    record {
      placed = c.args.self.now.placed;
      placed_groups = c.args.self.now.placed_groups;
      count = c.put.ensures.count ∙ c.args.self.now.count;
      frames = c.put.ensures.frames ∙ c.args.self.now.frames;
      sound = subst IsSound (sym (λ e. record s { rows = c.put.ensures.rows e; rights = c.put.ensures.store.rights e }))
          (sound-group s c.args.self.now.sound c.args.self.now.placed c.args.self.now.placed_groups c.args.group c.in-Some.j (sym c.place.ensures.place ∙ c.in-Some.is) c.args.value c.requires);
    }

pub returns-in-Some : goal.returns-in-Some
unfolding seen parts
returns-in-Some c =
    let s = parts c.args.self.now in
    (λ e. world_of (record s { rows = c.put.ensures.rows e; rights = c.put.ensures.store.rights e }))
    ∙ put-group s c.args.self.now.sound c.args.self.now.placed c.args.self.now.placed_groups c.args.group c.in-Some.j (sym c.place.ensures.place ∙ c.in-Some.is) c.args.value c.requires

pub returns-in-None : goal.returns-in-None
unfolding seen parts
returns-in-None c = change_group-missed (parts c.args.self.now) c.args.group _ (sym c.place.ensures.place ∙ c.in-None.is)
