use Rattle.std.proofs.Common.{arith, ◌≤◌, ◌∙◌, ap, length, length-set, set, subst, sym, ℕ, List}
use Rattle.std.specs.Prelude.{All}
use Rattle.lwc_types.specs.declared.limits.TheConstants.{MOST_PAGES, MOST_RANGES}
use Rattle.range_map.specs.Kinds.{ranges}
use Rattle.fd_table.specs.Seen as slots_seen
use Rattle.cow_space.specs.Seen as pages_seen
use Rattle.cow_space.specs.Cells.{rights_of}
use Rattle.cow_space.specs.declared.page_runs.PageRun.{PageRun}
use Rattle.cow_space.specs.Changes.{IsPageRun, changed_place, changed_rights, changed_states}
use Rattle.lazy_world.specs.Cells.{put_rights, rows_of}
use Rattle.lazy_world.specs.Seen.{count, frame_count, free_nodes, rights, rows, free_frames, pool}
use Rattle.lazy_world.specs.declared.pieces.PageOrigins.TheVariants.{PageRuns}
use Rattle.lazy_world.proofs.TakeLemmas.{rights-given, row-given, states-given, page_runs-given}
use Rattle.lazy_world.proofs.PlaceLemmas.{rights-set}
use Rattle.lazy_world.proofs.AbsentLemmas.{rights-in}
use Rattle.lazy_world.proofs.places.Places.change_pages.Goals as goal

pub change-requires-clause-place : goal.change-requires-clause-place
change-requires-clause-place c = c.requires.place

pub change-requires-clause-page_runs : goal.change-requires-clause-page_runs
change-requires-clause-page_runs c = subst (All (IsPageRun (count c.args.self.now) c.args.place)) (sym c.as_slice.ensures.value) c.requires.given

pub change-requires-clause-ranges : goal.change-requires-clause-ranges
unfolding rows rights
change-requires-clause-ranges c =
    let w = c.args.self.now in
    let cells = pages_seen.cells w.pages in
    let table = slots_seen.slots w.slots in
    subst (λ (n : ℕ). n ≤ MOST_RANGES)
    (sym (ap (ranges MOST_PAGES)
    ((λ e. changed_states cells (pages_seen.rights w.pages) c.args.place (c.as_slice.ensures.value e) (c.as_slice-2.ensures.value e))
    ∙ states-given cells table w.uids.items c.args.place (pages_seen.rights w.pages) c.args.page_runs.now c.args.reads.now))) c.requires.ranges

pub invariant_of-self : goal.invariant_of-self
invariant_of-self c =
    let w = c.args.self.now in
    let same = ap length c.change.ensures.cells ∙ length-set (pages_seen.cells w.pages) c.args.place _ in
    record { kept = record { slot_count = w.kept.slot_count ∙ sym same; uid_count = w.kept.uid_count ∙ sym same; targets = w.kept.targets } }

pub returns-clause-rows : goal.returns-clause-rows
unfolding rows
returns-clause-rows c =
    let w = c.args.self.now in
    let cells = pages_seen.cells w.pages in
    let table = slots_seen.slots w.slots in
    let page_runs = c.args.page_runs.now in
    ap (λ cells. rows_of cells table w.uids.items) c.change.ensures.cells
    ∙ ap (λ (list : List PageRun). rows_of (set cells c.args.place (changed_place cells c.args.place list)) table w.uids.items) c.as_slice.ensures.value
    ∙ row-given cells table w.uids.items c.args.place (PageRuns page_runs c.args.reads.now) (changed_place cells c.args.place page_runs.items) (page_runs-given cells table w.uids.items c.args.place page_runs.items) c.requires.place

pub returns-clause-rights : goal.returns-clause-rights
unfolding rows rights
returns-clause-rights c =
    let w = c.args.self.now in
    let cells = pages_seen.cells w.pages in
    let table = slots_seen.slots w.slots in
    let olds = pages_seen.rights w.pages in
    ap rights_of c.change.ensures.rights
    ∙ rights-set olds c.args.place _ (rights-in w.pages c.args.place c.requires.place)
    ∙ ap (put_rights (rights_of olds) c.args.place)
    ((λ e. changed_rights cells olds c.args.place (c.as_slice.ensures.value e) (c.as_slice-2.ensures.value e))
    ∙ (λ e p. rights-given cells table w.uids.items c.args.place olds c.args.page_runs.now.items c.args.reads.now.items p e))

pub returns-clause-count : goal.returns-clause-count
returns-clause-count c = ap length c.change.ensures.cells ∙ length-set (pages_seen.cells c.args.self.now.pages) c.args.place _

pub returns-clause-frames : goal.returns-clause-frames
unfolding frame_count
returns-clause-frames c = c.change.ensures.frames

pub returns-clause-nodes : goal.returns-clause-nodes
unfolding rows rows_of free_nodes
returns-clause-nodes c = λ empty. omega (arith, c.change.ensures.nodes_empty (λ e p. empty p e), ap length c.as_slice.ensures.value)

pub returns-clause-cost : goal.returns-clause-cost
unfolding rows rows_of
returns-clause-cost c = λ empty. omega (arith, c.change.ensures.cost_empty (λ e p. empty p e), ap length c.as_slice.ensures.value)

pub returns-clause-free : goal.returns-clause-free
unfolding free_frames
returns-clause-free c = c.change.ensures.free

pub returns-clause-free_empty : goal.returns-clause-free_empty
unfolding rows rows_of free_frames
returns-clause-free_empty c empty = c.change.ensures.free_empty (λ e p. empty p e)

pub returns-clause-nodes_any : goal.returns-clause-nodes_any
unfolding free_nodes
returns-clause-nodes_any c = omega (arith, c.change.ensures.nodes, ap length c.as_slice.ensures.value)

pub returns-clause-cost_any : goal.returns-clause-cost_any
returns-clause-cost_any c = omega (arith, c.change.ensures.cost, ap length c.as_slice.ensures.value)

pub returns-clause-pool : goal.returns-clause-pool
unfolding pool
returns-clause-pool c = c.change.ensures.pool
