use Rattle.std.proofs.Common.{◌≤◌, ◌∙◌, [], ◌∷◌, ap, length, length-set, set, subst, sym, ℕ}
use Rattle.std.specs.Prelude.{All}
use Rattle.lwc_types.specs.declared.limits.TheConstants.{MOST_PAGES, MOST_RANGES}
use Rattle.range_map.specs.Kinds.{ranges}
use Rattle.fd_table.specs.Seen as slots_seen
use Rattle.cow_space.specs.Cells.{rights_of}
use Rattle.cow_space.specs.Changes.{IsPageRun, changed_place, changed_rights, changed_states}
use Rattle.cow_space.specs.Seen as pages_seen
use Rattle.cow_space.specs.declared.page_runs.PageRun.{PageRun}
use Rattle.lazy_world.specs.Cells.{put_rights, rows_of}
use Rattle.lazy_world.specs.Seen.{frame_count, rights, rows}
use Rattle.lazy_world.proofs.AbsentLemmas.{absent-right, rights-in}
use Rattle.lazy_world.proofs.MapLemmas.{is_page_run, rights-row, row-set, states-row}
use Rattle.lazy_world.proofs.PlaceLemmas.{rights-set}
use Rattle.lazy_world.proofs.places.Places.set_pages.Goals as goal

pub change-requires-clause-place : goal.change-requires-clause-place
change-requires-clause-place c = c.requires.place

pub change-requires-clause-page_runs : goal.change-requires-clause-page_runs
change-requires-clause-page_runs c =
    subst (λ (page_run : PageRun). All (IsPageRun (length (pages_seen.cells c.args.self.now.pages)) c.args.place) (page_run ∷ [])) (sym c.page_run_of-page_run.ensures)
    (is_page_run (length (pages_seen.cells c.args.self.now.pages)) c.args.place c.args.range.from c.args.range.to c.args.present c.requires.order c.requires.inside)

pub change-requires-clause-ranges : goal.change-requires-clause-ranges
unfolding rows rights
change-requires-clause-ranges c =
    let w = c.args.self.now in
    let cells = pages_seen.cells w.pages in
    let olds = pages_seen.rights w.pages in
    subst (λ (n : ℕ). n ≤ MOST_RANGES)
    (sym (ap (λ (page_run : PageRun). ranges MOST_PAGES (changed_states cells olds c.args.place (page_run ∷ []) [])) c.page_run_of-page_run.ensures
    ∙ ap (ranges MOST_PAGES)
    (states-row cells (slots_seen.slots w.slots) w.uids.items c.args.place c.args.range.from c.args.range.to c.args.present olds (absent-right w c.args.place)))) c.requires.few

pub invariant_of-self : goal.invariant_of-self
invariant_of-self c =
    let w = c.args.self.now in
    let same = ap length c.change.ensures.cells ∙ length-set (pages_seen.cells w.pages) c.args.place _ in
    record { kept = record { slot_count = w.kept.slot_count ∙ sym same; uid_count = w.kept.uid_count ∙ sym same; targets = w.kept.targets } }

pub returns-clause-rows : goal.returns-clause-rows
unfolding rows
returns-clause-rows c =
    let w = c.args.self.now in
    ap (λ cells. rows_of cells (slots_seen.slots w.slots) w.uids.items)
    (c.change.ensures.cells
    ∙ ap (λ (page_run : PageRun). set (pages_seen.cells w.pages) c.args.place (changed_place (pages_seen.cells w.pages) c.args.place (page_run ∷ []))) c.page_run_of-page_run.ensures)
    ∙ row-set (pages_seen.cells w.pages) (slots_seen.slots w.slots) w.uids.items c.args.place c.args.range.from c.args.range.to c.args.present c.requires.place

pub returns-clause-rights : goal.returns-clause-rights
unfolding rows rights
returns-clause-rights c =
    let w = c.args.self.now in
    let cells = pages_seen.cells w.pages in
    let olds = pages_seen.rights w.pages in
    ap rights_of c.change.ensures.rights
    ∙ rights-set olds c.args.place _ (rights-in w.pages c.args.place c.requires.place)
    ∙ ap (put_rights (rights_of olds) c.args.place)
    (ap (λ (page_run : PageRun). changed_rights cells olds c.args.place (page_run ∷ []) []) c.page_run_of-page_run.ensures
    ∙ rights-row cells (slots_seen.slots w.slots) w.uids.items c.args.place c.args.range.from c.args.range.to c.args.present olds (absent-right w c.args.place))

pub returns-clause-count : goal.returns-clause-count
returns-clause-count c = ap length c.change.ensures.cells ∙ length-set (pages_seen.cells c.args.self.now.pages) c.args.place _

pub returns-clause-frames : goal.returns-clause-frames
unfolding frame_count
returns-clause-frames c = c.change.ensures.frames
