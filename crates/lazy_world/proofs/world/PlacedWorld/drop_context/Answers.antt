use Rattle.std.proofs.Common.{◌∙◌, subst, sym}
use Rattle.lazy_world.specs.Sound.{IsSound}
use Rattle.lazy_world.specs.States.{world_of}
use Rattle.lazy_world.specs.Worlds.{parts, seen}
use Rattle.lazy_world.proofs.DropLemmas.{dropped-context, sound-context}
use Rattle.lazy_world.proofs.WorldLemmas.{live-there}
use Rattle.lazy_world.proofs.world.PlacedWorld.drop_context.Goals as goal

pub remove-i-requires : goal.remove-i-requires
unfolding seen parts
remove-i-requires c = sym (live-there (parts c.args.self.now) c.args.context) ∙ c.requires

pub invariant_of-self : goal.invariant_of-self
unfolding parts
invariant_of-self c =
    let s = parts c.args.self.now in
    record {
      placed = c.remove-i.ensures.placed;
      placed_groups = c.args.self.now.placed_groups;
      count = c.clear.ensures.count ∙ c.args.self.now.count;
      frames = c.clear.ensures.frames ∙ c.args.self.now.frames;
      sound = subst IsSound (sym (λ e. record s { rows = c.clear.ensures.rows e; rights = c.clear.ensures.rights e; contexts = c.remove-i.new.self }))
          (sound-context s c.args.self.now.sound c.args.self.now.placed c.args.context c.remove-i.result c.remove-i.ensures.place
          c.remove-i.new.self c.remove-i.ensures.map c.remove-i.ensures.places);
    }

pub returns-clause-world : goal.returns-clause-world
unfolding seen parts
returns-clause-world c =
    let s = parts c.args.self.now in
    (λ e. world_of (record s { rows = c.clear.ensures.rows e; rights = c.clear.ensures.rights e; contexts = c.remove-i.new.self }))
    ∙ dropped-context s c.args.self.now.sound c.args.self.now.placed c.args.context c.remove-i.result c.remove-i.ensures.place
    c.remove-i.new.self c.remove-i.ensures.map c.remove-i.ensures.places
