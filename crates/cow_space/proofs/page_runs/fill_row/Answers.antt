use Rattle.std.proofs.Common.{◌<◌, ◌≡◌, ℕ, ◌∙◌, inl, ⊎_elim, ap, arith, length, refl, subst, sym, true, Option, None, Some}
use Rattle.std.specs.Option.{MatchOption}
use Rattle.std.proofs.lemmas.Bool.{cases_eq}
use Rattle.std.proofs.Math.ListN.{length-set}
use Rattle.lwc_types.specs.declared.limits.TheConstants.{MOST_PAGES}
use Rattle.lwc_types.specs.declared.page.PageValue.{PageValue}
use Rattle.page_tree.proofs.OpenLemmas.{passed-later}
use Rattle.range_map.specs.Kinds.{is_between}
use Rattle.cow_space.specs.declared.page_runs.PageRun.{PageRun}
use Rattle.cow_space.specs.Changes.{IsApart, IsPageRun}
use Rattle.cow_space.specs.Maps.{put_range, row_of}
use Rattle.cow_space.specs.Rows.{changed_row, origin_value}
use Rattle.cow_space.specs.RowSeen.{maps}
use Rattle.cow_space.proofs.Changed.{find-holds, no-page_run, past-page_run}
use Rattle.range_map.proofs.Walks.{edges-edge, edges-few, edges-grow}
use Rattle.cow_space.proofs.Edges.{piece-edge}
use Rattle.cow_space.proofs.Filled.{by-page_run, filled, filled-all, filled-more, filled-none, filled-same, more-nodes, origin-kept, same-nodes}
use Rattle.cow_space.proofs.RowViews.{few-passed, row-bare, row-edges, row-first, row-later}
use Rattle.cow_space.proofs.page_runs.fill_row.Goals as goal

pub pieces-init : goal.pieces-init
pieces-init c = record {
  inside = omega arith;
  maps = filled-none (maps c.args.rows.now) c.args.place (changed_row (maps c.args.rows.now) c.args.place c.args.page_runs.now);
  frames = refl;
  pool = refl;
  free = omega arith;
  others = λ j off none. none;
  nodes = inl (omega arith);
  cost = omega arith;
  opened = λ none. row-bare c.args.rows.now c.args.place 0 none;
  nodes_open = λ none _. omega (arith, row-first c.args.rows.now c.args.place);
  nodes_end = λ _. omega arith;
  cost_open = λ _ _. omega arith;
  cost_end = λ _. omega arith;
  idle = λ _. refl;
  idle_nodes = λ _. refl;
}

pub fill_range-requires-clause-given : goal.fill_range-requires-clause-given
fill_range-requires-clause-given c =
    let page_runs = c.args.page_runs.now in
    let count = length (maps c.args.rows.now) in
    let holds = subst (λ o. MatchOption o (Unit {0}) (λ s. IsPageRun count c.args.place s × (is_between s.range.from s.range.to c.pieces.p ≡ true))) (sym c.found_run-found.ensures.run ∙ c.in-Some.is)
    (find-holds (λ (s : PageRun). is_between s.range.from s.range.to c.pieces.p) (IsPageRun count c.args.place) page_runs c.requires.page_runs) in
    subst (λ n. IsApart n c.args.place c.in-Some.page_run.origin) (sym (ap length c.pieces.invariant.maps ∙ length-set (maps c.args.rows.now) c.args.place _)) holds.0.given

pub pieces-preserved-in-Some : goal.pieces-preserved-in-Some
pieces-preserved-in-Some c =
    let page_runs = c.args.page_runs.now in
    let before = maps c.args.rows.now in
    let count = length before in
    let after = changed_row before c.args.place page_runs in
    let p = c.pieces.p in
    let e = c.found_run-found.result.1 in
    let edge = c.found_run-found.ensures in
    let inv = c.pieces.invariant in
    let mine = c.fill_range.ensures in
    let origin = c.in-Some.page_run.origin in
    let found = sym edge.run ∙ c.in-Some.is in
    let holds = subst (λ o. MatchOption o (Unit {0}) (λ s. IsPageRun count c.args.place s × (is_between s.range.from s.range.to p ≡ true))) found
    (find-holds (λ (s : PageRun). is_between s.range.from s.range.to p) (IsPageRun count c.args.place) page_runs c.requires.page_runs) in
    let kept = ap (λ ms. origin_value ms origin) inv.maps ∙ origin-kept before c.args.place count (put_range (row_of before c.args.place) 0 p after) origin holds.0.given in
    let more = piece-edge count c.args.place page_runs p e c.in-Some.page_run c.requires.page_runs edge.past edge.within found edge.edge in
    record {
      inside = edge.within;
      maps = filled-more before c.args.place after c.requires.row p e (maps c.pieces.rows) (maps c.fill_range.new.rows) (origin_value (maps c.pieces.rows) origin) (omega (arith, edge.past)) inv.maps mine.maps
          (λ q low high. by-page_run before c.args.place q page_runs (Some c.in-Some.page_run) (edge.alike q low high ∙ found) ∙ ap (λ (f : ℕ → Option PageValue). f q) (sym kept));
      frames = mine.frames ∙ inv.frames;
      pool = mine.pool ∙ inv.pool;
      free = omega (arith, mine.free, inv.free);
      others = λ j off none. mine.others j off (inv.others j off none);
      nodes = more-nodes _ _ _ _ _ _ _ more inv.nodes mine.own mine.nodes mine.nodes_own;
      cost = omega (arith, more, inv.cost, mine.cost);
      opened = λ none. mine.opened (inv.opened none);
      nodes_open = λ none _. let a = inv.nodes_open none (omega (arith, edge.past, edge.within)) in let b = mine.nodes_open (inv.opened none) in omega (arith, a, b, more);
      nodes_end = λ none. let a = inv.nodes_open none (omega (arith, edge.past, edge.within)) in let b = mine.nodes_open (inv.opened none) in omega (arith, a, b, more);
      cost_open = λ none _. let a = inv.cost_open none (omega (arith, edge.past, edge.within)) in let b = mine.cost_open (inv.opened none) in omega (arith, a, b, more);
      cost_end = λ none. let a = inv.cost_open none (omega (arith, edge.past, edge.within)) in let b = mine.cost_open (inv.opened none) in let few = few-passed e edge.within in omega (arith, a, b, more, few);
      idle = λ empty. absurd (let off = no-page_run page_runs p empty in cc);
      idle_nodes = λ empty. absurd (let off = no-page_run page_runs p empty in cc);
    }

pub pieces-preserved : goal.pieces-preserved
pieces-preserved c =
    let page_runs = c.args.page_runs.now in
    let before = maps c.args.rows.now in
    let after = changed_row before c.args.place page_runs in
    let p = c.pieces.p in
    let e = c.found_run-found.result.1 in
    let edge = c.found_run-found.ensures in
    let inv = c.pieces.invariant in
    let found = sym edge.run ∙ c.in_default.is in
    let more = λ (early : e < MOST_PAGES). edges-edge (λ (s : PageRun). s.range.from) (λ (s : PageRun). s.range.to) page_runs p e edge.past (edge.edge early) in
    let grows = edges-grow (λ (s : PageRun). s.range.from) (λ (s : PageRun). s.range.to) page_runs p e (omega (arith, edge.past)) in
    record {
      inside = edge.within;
      maps = filled-same before c.args.place after p e (maps c.pieces.rows) (omega (arith, edge.past)) inv.maps
          (λ q low high. by-page_run before c.args.place q page_runs None (edge.alike q low high ∙ found));
      frames = inv.frames;
      pool = inv.pool;
      free = inv.free;
      others = inv.others;
      nodes = same-nodes _ _ _ _ _ grows inv.nodes;
      cost = omega (arith, grows, inv.cost);
      opened = λ none. row-later c.pieces.rows c.args.place p e (omega (arith, edge.past)) (inv.opened none);
      nodes_open = λ none early. let a = inv.nodes_open none (omega (arith, edge.past, edge.within)) in let b = row-edges c.pieces.rows c.args.place p e in let m = more early in omega (arith, a, b, m);
      nodes_end = λ none. let a = inv.nodes_end none in omega (arith, a, grows);
      cost_open = λ none early. let a = inv.cost_open none (omega (arith, edge.past, edge.within)) in let b = passed-later p e (omega (arith, edge.past)) in let m = more early in omega (arith, a, b, m);
      cost_end = λ none. let a = inv.cost_end none in omega (arith, a, grows);
      idle = inv.idle;
      idle_nodes = inv.idle_nodes;
    }

pub returns-clause-maps : goal.returns-clause-maps
returns-clause-maps c =
    let before = maps c.args.rows.now in
    let last : c.pieces.p ≡ MOST_PAGES = omega (arith, c.pieces-test.false, c.pieces.invariant.inside) in
    filled-all before c.args.place (changed_row before c.args.place c.args.page_runs.now) (maps c.pieces.rows) (c.pieces.invariant.maps ∙ ap (filled before c.args.place (changed_row before c.args.place c.args.page_runs.now)) last)
    (λ q past. by-page_run before c.args.place q c.args.page_runs.now None (past-page_run (length before) c.args.place q c.args.page_runs.now past c.requires.page_runs))

pub returns-clause-nodes : goal.returns-clause-nodes
returns-clause-nodes c =
    let few = edges-few (λ (s : PageRun). s.range.from) (λ (s : PageRun). s.range.to) c.args.page_runs.now c.pieces.p in
    ⊎_elim
    (λ empty. omega (arith, empty, c.pieces.invariant.idle_nodes empty))
    (λ some. ⊎_elim (λ a. omega (arith, a, few, some)) (λ b. omega (arith, b.1, few, some)) c.pieces.invariant.nodes)
    (cases_eq (length c.args.page_runs.now) 0)

pub returns-clause-nodes_empty : goal.returns-clause-nodes_empty
returns-clause-nodes_empty c none =
    let few = edges-few (λ (s : PageRun). s.range.from) (λ (s : PageRun). s.range.to) c.args.page_runs.now c.pieces.p in
    let end = c.pieces.invariant.nodes_end none in
    ⊎_elim
    (λ empty. omega (arith, empty, c.pieces.invariant.idle_nodes empty))
    (λ some. omega (arith, few, end, some))
    (cases_eq (length c.args.page_runs.now) 0)

pub returns-clause-cost : goal.returns-clause-cost
returns-clause-cost c =
    let few = edges-few (λ (s : PageRun). s.range.from) (λ (s : PageRun). s.range.to) c.args.page_runs.now c.pieces.p in
    omega (arith, few, c.pieces.invariant.cost)

pub returns-clause-cost_empty : goal.returns-clause-cost_empty
returns-clause-cost_empty c none =
    let few = edges-few (λ (s : PageRun). s.range.from) (λ (s : PageRun). s.range.to) c.args.page_runs.now c.pieces.p in
    let end = c.pieces.invariant.cost_end none in
    ⊎_elim
    (λ empty. omega (arith, empty, c.pieces.invariant.idle empty))
    (λ some. omega (arith, few, end, some))
    (cases_eq (length c.args.page_runs.now) 0)
