use Rattle.std.proofs.Common.{◌≡◌, ◌<◌, ◌≤◌, ℕ, take, true}
use Rattle.lwc_types.specs.declared.limits.TheConstants.{MOST_PAGES}
use Rattle.cow_space.specs.Changes.{is_edge, page_run_at}
use Rattle.cow_space.proofs.kinds.page_run_edge.Given as goal

abbrev pub invariant-loop-page_run : goal.invariant-loop-page_run
invariant-loop-page_run l = record {
  past : l.page < l.edge;
  within : l.edge ≤ MOST_PAGES;
  alike : (q : ℕ) → l.page ≤ q → q < l.edge → page_run_at (take l.page_run-index l.page_runs) q ≡ page_run_at (take l.page_run-index l.page_runs) l.page;
  edge : l.edge < MOST_PAGES → is_edge (take l.page_run-index l.page_runs) l.edge ≡ true;
}
