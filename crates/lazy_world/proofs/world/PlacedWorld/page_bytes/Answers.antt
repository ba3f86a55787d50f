use Rattle.std.proofs.Common.{◌∙◌, ap, sym}
use Rattle.cow_space.specs.Maps.{data_of}
use Rattle.lazy_world.specs.Cells.{rows_of}
use Rattle.lazy_world.specs.Seen.{rows}
use Rattle.lazy_world.specs.Worlds.{parts, seen}
use Rattle.lazy_world.proofs.HolderLemmas.{page-held, page-lost}
use Rattle.lazy_world.proofs.world.PlacedWorld.page_bytes.Goals as goal

pub returns-in-Some : goal.returns-in-Some
unfolding parts seen rows rows_of
returns-in-Some c =
    c.bytes.ensures.value ∙ ap data_of (sym (page-held (parts c.args.self.now) c.args.place c.args.page c.in-Some.j (sym c.holder.ensures.place ∙ c.in-Some.is)))

pub returns-in-None : goal.returns-in-None
unfolding parts seen
returns-in-None c = ap data_of (sym (page-lost (parts c.args.self.now) c.args.place c.args.page (sym c.holder.ensures.place ∙ c.in-None.is)))
