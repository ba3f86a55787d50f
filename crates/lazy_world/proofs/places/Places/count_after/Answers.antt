use Rattle.std.proofs.Common.{◌∙◌, [], ◌∷◌, ap, length, subst, sym}
use Rattle.std.specs.Prelude.{All}
use Rattle.lwc_types.specs.declared.limits.TheConstants.{MOST_PAGES}
use Rattle.range_map.specs.Kinds.{ranges}
use Rattle.fd_table.specs.Seen as slots_seen
use Rattle.cow_space.specs.Changes.{IsPageRun, changed_states}
use Rattle.cow_space.specs.Seen as pages_seen
use Rattle.cow_space.specs.declared.page_runs.PageRun.{PageRun}
use Rattle.lazy_world.specs.Seen.{rights, rows}
use Rattle.lazy_world.proofs.AbsentLemmas.{absent-right}
use Rattle.lazy_world.proofs.MapLemmas.{is_page_run, states-row}
use Rattle.lazy_world.proofs.places.Places.count_after.Goals as goal

pub count_after-requires-clause-place : goal.count_after-requires-clause-place
count_after-requires-clause-place c = c.requires.place

pub count_after-requires-clause-page_runs : goal.count_after-requires-clause-page_runs
count_after-requires-clause-page_runs c =
    let places = length (pages_seen.cells c.args.self.now.pages) in
    subst (λ (page_run : PageRun). All (IsPageRun places c.args.place) (page_run ∷ [])) (sym c.page_run_of-page_run.ensures)
    (is_page_run places c.args.place c.args.range.from c.args.range.to c.args.present c.requires.order c.requires.inside)

pub returns : goal.returns
unfolding rows rights
returns c =
    let w = c.args.self.now in
    let cells = pages_seen.cells w.pages in
    let table = slots_seen.slots w.slots in
    c.count_after.ensures
    ∙ ap (λ (page_run : PageRun). ranges MOST_PAGES (changed_states cells (pages_seen.rights w.pages) c.args.place (page_run ∷ []) [])) c.page_run_of-page_run.ensures
    ∙ ap (ranges MOST_PAGES)
    (states-row cells table w.uids.items c.args.place c.args.range.from c.args.range.to c.args.present (pages_seen.rights w.pages) (absent-right w c.args.place))
