use Rattle.std.proofs.Common.{length, set, ap, ◌∙◌, ⊎_elim, arith, subst}
use Rattle.std.specs.Prelude.{All}
use Rattle.std.proofs.lemmas.Bool.{cases_eq}
use Rattle.range_map.specs.Kinds.{kind_at}
use Rattle.cow_space.specs.Changes.{IsPageRun}
use Rattle.cow_space.specs.Maps as rows
use Rattle.cow_space.specs.Rows.{changed_row}
use Rattle.cow_space.specs.RowSeen.{HasNoTree, maps}
use Rattle.cow_space.specs.Seen.{cells, rights}
use Rattle.cow_space.proofs.Changed.{cells-changed, fit-changed, none-before, none-left, rights-changed, states-now}
use Rattle.cow_space.proofs.Places.{may-none}
use Rattle.cow_space.proofs.Views.{bare-still, cells-set, kept-still, kinds-in, no-tree, rights-set, row-count, row-in}
use Rattle.cow_space.specs.Tags.{used}
use Rattle.cow_space.proofs.FreeLemmas.{free-same}
use Rattle.cow_space.proofs.Taken.{changed-used}
use Rattle.cow_space.proofs.cells.PageCells.change.Goals as goal

pub index_mut-requires : goal.index_mut-requires
index_mut-requires c = omega (arith, kinds-in c.args.self.now c.args.place c.requires.place)

pub fill_row-requires-clause-row : goal.fill_row-requires-clause-row
fill_row-requires-clause-row c = row-in c.args.self.now c.args.place c.requires.place

pub fill_row-requires-clause-page_runs : goal.fill_row-requires-clause-page_runs
fill_row-requires-clause-page_runs c = subst (λ n. All (IsPageRun n c.args.place) c.args.page_runs.now) (row-count c.args.self.now) c.requires.page_runs

pub invariant_of-self : goal.invariant_of-self
invariant_of-self c =
    let w = c.args.self.now in
    let kinds = c.kinds_after-kinds.ensures in
    let all = states-now w c.args.place c.args.page_runs.now c.args.reads.now c.kinds_after-kinds.result c.requires.page_runs kinds.states kinds.past in
    let some = c.has_own_page-some.ensures.some c.if-some.true in
    record {
      kept = kept-still w c.args.place c.kinds_after-kinds.result (changed_row (maps w.rows) c.args.place c.args.page_runs.now) (maps c.fill_row.new.rows) c.requires.place c.fill_row.ensures.maps
          (fit-changed w c.args.place c.args.page_runs.now c.args.reads.now c.kinds_after-kinds.result all) kinds.past;
      bare = bare-still w c.args.place c.kinds_after-kinds.result (HasNoTree c.fill_row.new.rows) c.requires.place c.fill_row.ensures.others
          (λ none. absurd (some none));
    }

pub drop_row-requires : goal.drop_row-requires
drop_row-requires c = record { row = row-in c.args.self.now c.args.place c.requires.place }

pub invariant_of-self-else-some : goal.invariant_of-self-else-some
invariant_of-self-else-some c =
    let w = c.args.self.now in
    record {
      kept = kept-still w c.args.place c.kinds_after-kinds.result rows.no_pages (maps c.drop_row.new.self) c.requires.place c.drop_row.ensures.maps (λ p. may-none (kind_at c.kinds_after-kinds.result p)) c.kinds_after-kinds.ensures.past;
      bare = bare-still w c.args.place c.kinds_after-kinds.result (HasNoTree c.drop_row.new.self) c.requires.place c.drop_row.ensures.others (λ _. c.drop_row.ensures.empty);
    }

pub returns-then-some-clause-cells : goal.returns-then-some-clause-cells
unfolding cells
returns-then-some-clause-cells c =
    let w = c.args.self.now in
    let kinds = c.kinds_after-kinds.ensures in
    let all = states-now w c.args.place c.args.page_runs.now c.args.reads.now c.kinds_after-kinds.result c.requires.page_runs kinds.states kinds.past in
    cells-set w c.args.place c.kinds_after-kinds.result (changed_row (maps w.rows) c.args.place c.args.page_runs.now) (maps c.fill_row.new.rows) c.requires.place c.fill_row.ensures.maps
    ∙ ap (set (cells w) c.args.place) (cells-changed w c.args.place c.args.page_runs.now c.args.reads.now c.kinds_after-kinds.result all)

pub returns-then-some-clause-rights : goal.returns-then-some-clause-rights
unfolding rights
returns-then-some-clause-rights c =
    let w = c.args.self.now in
    let kinds = c.kinds_after-kinds.ensures in
    let all = states-now w c.args.place c.args.page_runs.now c.args.reads.now c.kinds_after-kinds.result c.requires.page_runs kinds.states kinds.past in
    rights-set w c.args.place c.kinds_after-kinds.result ∙ ap (set (rights w) c.args.place) (rights-changed w c.args.place c.args.page_runs.now c.args.reads.now c.kinds_after-kinds.result all)

pub returns-then-some-clause-nodes_empty : goal.returns-then-some-clause-nodes_empty
returns-then-some-clause-nodes_empty c empty = c.fill_row.ensures.nodes_empty (no-tree c.args.self.now c.args.place empty)

pub returns-then-some-clause-cost_empty : goal.returns-then-some-clause-cost_empty
returns-then-some-clause-cost_empty c empty = c.fill_row.ensures.cost_empty (no-tree c.args.self.now c.args.place empty)

pub returns-else-some-clause-cells : goal.returns-else-some-clause-cells
unfolding cells
returns-else-some-clause-cells c =
    let w = c.args.self.now in
    let kinds = c.kinds_after-kinds.ensures in
    let all = states-now w c.args.place c.args.page_runs.now c.args.reads.now c.kinds_after-kinds.result c.requires.page_runs kinds.states kinds.past in
    cells-set w c.args.place c.kinds_after-kinds.result rows.no_pages (maps c.drop_row.new.self) c.requires.place c.drop_row.ensures.maps
    ∙ ap (set (cells w) c.args.place) (none-left w c.args.place c.args.page_runs.now c.args.reads.now c.kinds_after-kinds.result all (c.has_own_page-some.ensures.none c.if-some.false))

pub returns-else-some-clause-cost : goal.returns-else-some-clause-cost
returns-else-some-clause-cost c =
    let w = c.args.self.now in
    let kinds = c.kinds_after-kinds.ensures in
    let all = states-now w c.args.place c.args.page_runs.now c.args.reads.now c.kinds_after-kinds.result c.requires.page_runs kinds.states kinds.past in
    ⊎_elim
    (λ zero. omega (arith, c.drop_row.ensures.cost_empty (none-before w c.args.place c.args.page_runs.now c.args.reads.now c.kinds_after-kinds.result all (c.has_own_page-some.ensures.none c.if-some.false) zero)))
    (λ some. omega (arith, some, c.drop_row.ensures.cost))
    (cases_eq (length c.args.page_runs.now) 0)

pub returns-else-some-clause-rights : goal.returns-else-some-clause-rights
unfolding rights
returns-else-some-clause-rights c =
    let w = c.args.self.now in
    let kinds = c.kinds_after-kinds.ensures in
    let all = states-now w c.args.place c.args.page_runs.now c.args.reads.now c.kinds_after-kinds.result c.requires.page_runs kinds.states kinds.past in
    rights-set w c.args.place c.kinds_after-kinds.result ∙ ap (set (rights w) c.args.place) (rights-changed w c.args.place c.args.page_runs.now c.args.reads.now c.kinds_after-kinds.result all)

pub returns-else-some-clause-cost_empty : goal.returns-else-some-clause-cost_empty
returns-else-some-clause-cost_empty c empty = omega (arith, c.drop_row.ensures.cost_empty (no-tree c.args.self.now c.args.place empty))

pub returns-then-some-clause-free_empty : goal.returns-then-some-clause-free_empty
returns-then-some-clause-free_empty c empty =
    free-same c.args.self.now _ c.fill_row.ensures.frames
    (ap used (returns-then-some-clause-cells c) ∙ changed-used (cells c.args.self.now) c.args.place c.requires.place empty c.args.page_runs.now c.requires.page_runs)

pub returns-else-some-clause-free_empty : goal.returns-else-some-clause-free_empty
returns-else-some-clause-free_empty c empty =
    free-same c.args.self.now _ c.drop_row.ensures.frames
    (ap used (returns-else-some-clause-cells c) ∙ changed-used (cells c.args.self.now) c.args.place c.requires.place empty c.args.page_runs.now c.requires.page_runs)
