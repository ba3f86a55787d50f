use Rattle.std.proofs.Common.{◌∙◌, arith, sym}
use Rattle.lazy_world.specs.Worlds.{parts, seen}
use Rattle.lazy_world.proofs.MapLemmas.{below_pages, ranges-mapped}
use Rattle.lazy_world.proofs.world.PlacedWorld.ranges_after_map.Goals as goal

pub count_after-requires-clause-inside : goal.count_after-requires-clause-inside
unfolding seen parts
count_after-requires-clause-inside c =
    let s = parts c.args.self.now in
    omega (arith, below_pages s c.args.range.to c.requires.within, c.args.self.now.sound.sizes.size.pages.1)

pub returns : goal.returns
unfolding seen parts
returns c =
    let s = parts c.args.self.now in
    record {
      value = c.count_after.ensures
          ∙ sym (ranges-mapped s c.args.self.now.sound c.args.self.now.placed c.args.context c.place.result c.place.ensures.found c.args.range.from c.args.range.to c.args.present
          (below_pages s c.args.range.to c.requires.within));
    }
