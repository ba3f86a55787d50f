use Rattle.std.proofs.Common.{◌∙◌, ap}
use Rattle.fd_table.specs.Seen as slots_seen
use Rattle.cow_space.specs.Cells.{rights_of}
use Rattle.cow_space.specs.Seen as pages_seen
use Rattle.lazy_world.specs.Cells.{rows_of}
use Rattle.lazy_world.specs.Seen.{pages, rights, rows}
use Rattle.lazy_world.proofs.PlaceLemmas.{page-put}
use Rattle.lazy_world.proofs.places.Places.write.Goals as goal

pub returns-clause-rows : goal.returns-clause-rows
unfolding rows pages
returns-clause-rows c =
    let w = c.args.self.now in
    ap (λ cells. rows_of cells (slots_seen.slots w.slots) w.uids.items) c.in-Ok.ensures.written
    ∙ page-put (pages_seen.cells w.pages) (slots_seen.slots w.slots) w.uids.items c.args.place c.args.page _ c.requires.place

pub returns-clause-rights : goal.returns-clause-rights
unfolding rights
returns-clause-rights c = ap rights_of c.in-Ok.ensures.rights
