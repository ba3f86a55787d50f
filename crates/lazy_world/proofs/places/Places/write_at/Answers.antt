use Rattle.std.proofs.Common.{◌∙◌, ap, sym, length, length-set}
use Rattle.fd_table.specs.Seen as slots_seen
use Rattle.cow_space.specs.Cells.{rights_of}
use Rattle.cow_space.specs.Seen as pages_seen
use Rattle.lazy_world.specs.Cells.{rows_of}
use Rattle.lazy_world.specs.Seen.{pages, rights, rows}
use Rattle.lazy_world.proofs.PlaceLemmas.{page-put}
use Rattle.lazy_world.proofs.places.Places.write_at.Goals as goal

pub invariant_of-self : goal.invariant_of-self
invariant_of-self c =
    let w = c.args.self.now in
    let same = ap length (c.write_at.ensures.written (record { job = 0; k = 0 })) ∙ length-set (pages_seen.cells w.pages) c.args.place _ in
    record { kept = record { slot_count = w.kept.slot_count ∙ sym same; uid_count = w.kept.uid_count ∙ sym same; targets = w.kept.targets } }

pub returns-clause-may : goal.returns-clause-may
unfolding rights
returns-clause-may c = c.write_at.ensures.may

pub returns-clause-rows : goal.returns-clause-rows
unfolding rows pages
returns-clause-rows c =
    let w = c.args.self.now in
    λ tag.
    ap (λ cells. rows_of cells (slots_seen.slots w.slots) w.uids.items) (c.write_at.ensures.written tag)
    ∙ page-put (pages_seen.cells w.pages) (slots_seen.slots w.slots) w.uids.items c.args.place c.args.page _ c.requires.has.inside

pub returns-clause-rights : goal.returns-clause-rights
unfolding rights
returns-clause-rights c = ap rights_of c.write_at.ensures.rights
