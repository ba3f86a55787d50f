use Rattle.std.proofs.Common.{◌∙◌, ⊎_elim, ap, sym, subst, length, length-set}
use Rattle.std.proofs.lemmas.Bool.{cases_Bool}
use Rattle.fd_table.specs.Seen as slots_seen
use Rattle.cow_space.specs.Cells.{rights_of}
use Rattle.cow_space.specs.Seen as pages_seen
use Rattle.lazy_world.specs.Cells.{rows_of}
use Rattle.lazy_world.specs.Kept.{IsKept}
use Rattle.lazy_world.specs.Seen.{pages, rights, rows}
use Rattle.lazy_world.proofs.PlaceLemmas.{page-put}
use Rattle.lazy_world.proofs.places.Places.write_in_place.Goals as goal

pub invariant_of-self : goal.invariant_of-self
invariant_of-self c =
    let w = c.args.self.now in
    ⊎_elim
    (λ done.
    let same = ap length (c.write_in_place.ensures.written done (record { job = 0; k = 0 })) ∙ length-set (pages_seen.cells w.pages) c.args.place _ in
    record { kept = record { slot_count = w.kept.slot_count ∙ sym same; uid_count = w.kept.uid_count ∙ sym same; targets = w.kept.targets } })
    (λ off. record { kept = subst (λ cells. IsKept cells (slots_seen.slots w.slots) w.uids.items) (sym (c.write_in_place.ensures.same off)) w.kept })
    (cases_Bool c.write_in_place.result)

pub returns-clause-may : goal.returns-clause-may
unfolding rights
returns-clause-may c = λ done. (c.write_in_place.ensures.tells.0 done).1.0

pub returns-clause-rows : goal.returns-clause-rows
unfolding rows pages
returns-clause-rows c =
    let w = c.args.self.now in
    λ done tag.
    ap (λ cells. rows_of cells (slots_seen.slots w.slots) w.uids.items) (c.write_in_place.ensures.written done tag)
    ∙ page-put (pages_seen.cells w.pages) (slots_seen.slots w.slots) w.uids.items c.args.place c.args.page _ c.requires

pub returns-clause-same : goal.returns-clause-same
unfolding rows
returns-clause-same c =
    let w = c.args.self.now in
    λ off. ap (λ cells. rows_of cells (slots_seen.slots w.slots) w.uids.items) (c.write_in_place.ensures.same off)

pub returns-clause-rights : goal.returns-clause-rights
unfolding rights
returns-clause-rights c = ap rights_of c.write_in_place.ensures.rights
