-- A walk over the pieces of page runs makes no more pieces than there are edges.
use Rattle.std.proofs.Common.{◌≡◌, ℕ, ◌+◌, ◌<◌, ◌≤◌, ⊎_elim, Bool, true, false, cond, List, [], ◌∷◌, leb, ltb, arith, refl, sym, subst, Some}
use Rattle.std.specs.Prelude.{All}
use Rattle.std.specs.Option.{MatchOption}
use Rattle.std.proofs.lemmas.Bool.{and_parts, cases_lt, ltb-true}
use Rattle.lwc_types.specs.declared.limits.TheConstants.{MOST_PAGES}
use Rattle.range_map.specs.Kinds.{is_between}
use Rattle.range_map.proofs.Walks as walks
use Rattle.cow_space.specs.declared.page_runs.PageRun.{PageRun}
use Rattle.cow_space.specs.Changes.{IsPageRun, is_edge, page_run_at}
use Rattle.cow_space.proofs.Changed.{find-holds}

-- how many edges of page runs are at a page or before it
abbrev pub edges_to : List PageRun → ℕ → ℕ
edges_to page_runs p = walks.edges_to (λ s. s.range.from) (λ s. s.range.to) page_runs p

-- a page run that has a page ends later
on-later : (page_run : PageRun) (p : ℕ) → is_between page_run.range.from page_run.range.to p ≡ true → p < page_run.range.to
on-later page_run p on = ltb-true p page_run.range.to (and_parts (leb page_run.range.from p) (ltb p page_run.range.to) on).1

edges-end : (page_runs : List PageRun) (p e : ℕ) (page_run : PageRun) → p < e → page_run_at page_runs p ≡ Some page_run → page_run.range.to ≤ e → edges_to page_runs p + 1 ≤ edges_to page_runs e
edges-end [] p e page_run past found end = absurd cc
edges-end (s ∷ ss) p e page_run past found end = by (is_between s.range.from s.range.to p) refl found (edges-end ss p e page_run past)
  where
    by : (b : Bool) → is_between s.range.from s.range.to p ≡ b → cond b (Some s) (page_run_at ss p) ≡ Some page_run →
        (page_run_at ss p ≡ Some page_run → page_run.range.to ≤ e → edges_to ss p + 1 ≤ edges_to ss e) → edges_to (s ∷ ss) p + 1 ≤ edges_to (s ∷ ss) e
    by true this here rest =
        let same : s ≡ page_run = cc in
        walks.edges-past (λ s. s.range.from) (λ s. s.range.to) s ss p e (on-later s p this) (subst (λ (t : PageRun). t.range.to ≤ e) (sym same) end)
    by false this here rest = walks.edges-more (λ s. s.range.from) (λ s. s.range.to) s ss p e (omega (arith, past)) (rest here end)

-- a piece of a page run ends at one more edge
pub piece-edge : (count i : ℕ) (page_runs : List PageRun) (p e : ℕ) (page_run : PageRun) → All (IsPageRun count i) page_runs → p < e → e ≤ MOST_PAGES →
    page_run_at page_runs p ≡ Some page_run → (e < MOST_PAGES → is_edge page_runs e ≡ true) → edges_to page_runs p + 1 ≤ edges_to page_runs e
piece-edge count i page_runs p e page_run are past within found edge = ⊎_elim
    (λ early. walks.edges-edge (λ s. s.range.from) (λ s. s.range.to) page_runs p e past (edge early))
    (λ late.
    let holds = subst (λ o. MatchOption o (Unit {0}) (λ s. IsPageRun count i s × (is_between s.range.from s.range.to p ≡ true))) found
    (find-holds (λ (s : PageRun). is_between s.range.from s.range.to p) (IsPageRun count i) page_runs are) in
    edges-end page_runs p e page_run past found (omega (arith, holds.0.inside, late)))
    (cases_lt e MOST_PAGES)
