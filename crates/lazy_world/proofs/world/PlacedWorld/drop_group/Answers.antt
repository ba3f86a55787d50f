use Rattle.std.proofs.Common.{◌∙◌, subst, sym}
use Rattle.lazy_world.specs.Sound.{IsSound}
use Rattle.lazy_world.specs.Reaping.{NamesNone}
use Rattle.lazy_world.specs.States.{Parts, world_of}
use Rattle.lazy_world.specs.Worlds.{parts, seen}
use Rattle.lazy_world.proofs.DropLemmas.{dropped-group, names-left, sound-group}
use Rattle.lazy_world.proofs.WorldLemmas.{group-there}
use Rattle.lazy_world.proofs.world.PlacedWorld.drop_group.Goals as goal

pub remove-j-requires : goal.remove-j-requires
unfolding seen parts
remove-j-requires c = sym (group-there (parts c.args.self.now) c.args.group) ∙ c.requires.there

pub invariant_of-self : goal.invariant_of-self
unfolding parts
invariant_of-self c =
    let s = parts c.args.self.now in
    record {
      placed = c.args.self.now.placed;
      placed_groups = c.remove-j.ensures.placed;
      count = c.clear.ensures.count ∙ c.args.self.now.count;
      frames = c.clear.ensures.frames ∙ c.args.self.now.frames;
      sound = subst IsSound (sym (λ e. record s { rows = c.clear.ensures.rows e; rights = c.clear.ensures.rights e; groups = c.remove-j.new.self }))
          (sound-group s c.args.self.now.sound c.args.self.now.placed c.args.self.now.placed_groups c.args.group c.remove-j.result c.remove-j.ensures.place
          c.remove-j.new.self c.remove-j.ensures.map c.remove-j.ensures.places c.requires.unnamed);
    }

pub returns-clause-world : goal.returns-clause-world
unfolding seen parts
returns-clause-world c =
    let s = parts c.args.self.now in
    (λ e. world_of (record s { rows = c.clear.ensures.rows e; rights = c.clear.ensures.rights e; groups = c.remove-j.new.self }))
    ∙ dropped-group s c.args.self.now.sound c.args.self.now.placed c.args.self.now.placed_groups c.args.group c.remove-j.result c.remove-j.ensures.place
    c.remove-j.new.self c.remove-j.ensures.map c.remove-j.ensures.places

pub returns-clause-names : goal.returns-clause-names
unfolding parts
returns-clause-names c h none =
    let s = parts c.args.self.now in
    subst (λ (t : Parts). NamesNone t h) (sym (λ e. record s { rows = c.clear.ensures.rows e; rights = c.clear.ensures.rights e; groups = c.remove-j.new.self }))
    (names-left s c.args.self.now.sound c.args.self.now.placed c.args.self.now.placed_groups c.args.group c.remove-j.result c.remove-j.ensures.place
    c.remove-j.new.self c.remove-j.ensures.map c.remove-j.ensures.places h none)
