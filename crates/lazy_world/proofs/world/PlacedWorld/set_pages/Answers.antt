use Rattle.std.proofs.Common.{◌≤◌, ◌∙◌, arith, subst, sym, ℕ}
use Rattle.lwc_types.specs.declared.limits.TheConstants.{MOST_RANGES}
use Rattle.lazy_world.specs.Sound.{IsSound}
use Rattle.lazy_world.specs.States.{world_of}
use Rattle.lazy_world.specs.Worlds.{parts, seen}
use Rattle.lazy_world.proofs.MapLemmas.{below_pages, mapped-world, ranges-mapped, sound-mapped}
use Rattle.lazy_world.proofs.world.PlacedWorld.set_pages.Goals as goal

pub set_pages-requires-clause-inside : goal.set_pages-requires-clause-inside
unfolding seen parts
set_pages-requires-clause-inside c =
    let s = parts c.args.self.now in
    omega (arith, below_pages s c.args.range.to c.requires.within, c.args.self.now.sound.sizes.size.pages.1)

pub set_pages-requires-clause-few : goal.set_pages-requires-clause-few
unfolding seen parts
set_pages-requires-clause-few c =
    let s = parts c.args.self.now in
    subst (λ (n : ℕ). n ≤ MOST_RANGES)
    (ranges-mapped s c.args.self.now.sound c.args.self.now.placed c.args.context c.place-i.result c.place-i.ensures.found c.args.range.from c.args.range.to c.args.present
    (below_pages s c.args.range.to c.requires.within))
    c.requires.few

pub invariant_of-self : goal.invariant_of-self
unfolding seen parts
invariant_of-self c =
    let s = parts c.args.self.now in
    record {
      placed = c.args.self.now.placed;
      placed_groups = c.args.self.now.placed_groups;
      count = c.set_pages.ensures.count ∙ c.args.self.now.count;
      frames = c.set_pages.ensures.frames ∙ c.args.self.now.frames;
      sound = subst IsSound (sym (λ e. record s { rows = c.set_pages.ensures.rows e; rights = c.set_pages.ensures.rights e }))
          (sound-mapped s c.args.self.now.sound c.args.self.now.placed c.args.context c.place-i.result c.place-i.ensures.found c.args.range.from c.args.range.to c.args.present
          (below_pages s c.args.range.to c.requires.within));
    }

pub returns : goal.returns
unfolding seen parts
returns c =
    let s = parts c.args.self.now in
    (λ e. world_of (record s { rows = c.set_pages.ensures.rows e; rights = c.set_pages.ensures.rights e }))
    ∙ mapped-world s c.args.self.now.sound c.args.self.now.placed c.args.context c.place-i.result c.place-i.ensures.found c.args.range.from c.args.range.to c.args.present
    (below_pages s c.args.range.to c.requires.within)
