use Rattle.std.proofs.Common.{◌∙◌, sym}
use Rattle.lazy_world.specs.Seen.{pages}
use Rattle.lazy_world.specs.Worlds.{parts, seen}
use Rattle.lazy_world.proofs.UsedLemmas.{count-pages, row-page}
use Rattle.lazy_world.proofs.WrittenLemmas.{parting-held, parting-lost}
use Rattle.lazy_world.proofs.world.PlacedWorld.is_parting.Goals as goal

pub returns-in-Some : goal.returns-in-Some
unfolding seen parts
returns-in-Some c =
    let w = c.args.self.now in
    c.is_parting.ensures
    ∙ parting-held (parts w) w.sound c.args.self.now.placed c.args.self.now.placed_groups
    (pages w.places) (row-page w.places) (count-pages w.places ∙ w.count) c.args.place c.args.page c.in-Some.j (sym c.holder.ensures.place ∙ c.in-Some.is)

pub returns-in-None : goal.returns-in-None
unfolding seen parts
returns-in-None c =
    let w = c.args.self.now in
    parting-lost (parts w) w.sound c.args.self.now.placed c.args.self.now.placed_groups
    (pages w.places) (row-page w.places) (count-pages w.places ∙ w.count) c.args.place c.args.page (sym c.holder.ensures.place ∙ c.in-None.is)
