use Rattle.std.proofs.Common.{◌≡◌, ◌≢◌, ℕ, ◌<◌, ◌≤◌, ◌+◌, ◌*◌, ◌-◌, ◌⊎◌, length}
use Rattle.lwc_types.specs.declared.limits.TheConstants.{MOST_PAGES}
use Rattle.page_tree.specs.Open.{entries_passed}
use Rattle.cow_space.specs.RowSeen.{HasNoTree, HasOwnRoot, IsOpen, edge_short, frames_of, free_frames, free_nodes, maps, node_steps, pool}
use Rattle.cow_space.specs.Rows.{changed_row}
use Rattle.cow_space.proofs.Edges.{edges_to}
use Rattle.cow_space.proofs.Filled.{filled}
use Rattle.cow_space.proofs.page_runs.fill_row.Given as goal

abbrev pub invariant-pieces : goal.invariant-pieces
invariant-pieces l = record {
  inside : l.p ≤ MOST_PAGES;
  maps : maps l.rows ≡ filled (maps l.fn.rows) l.fn.place (changed_row (maps l.fn.rows) l.fn.place l.page_runs) l.p;
  frames : frames_of l.rows ≡ frames_of l.fn.rows;
  pool : pool l.rows ≡ pool l.fn.rows;
  free : free_frames l.fn.rows ≤ free_frames l.rows;
  others : (j : ℕ) → j ≢ l.fn.place → HasNoTree l.fn.rows j → HasNoTree l.rows j;
  nodes : (free_nodes l.fn.rows ≤ free_nodes l.rows + 4 * edges_to l.page_runs l.p) ⊎ (HasOwnRoot l.rows l.fn.place × (free_nodes l.fn.rows ≤ free_nodes l.rows + (1 + 4 * edges_to l.page_runs l.p)));
  cost : node_steps l.rows ≤ node_steps l.fn.rows + 766 * edges_to l.page_runs l.p;
  opened : HasNoTree l.fn.rows l.fn.place → IsOpen l.rows l.fn.place l.p;
  nodes_open : HasNoTree l.fn.rows l.fn.place → l.p < MOST_PAGES → free_nodes l.fn.rows + edge_short l.rows l.fn.place l.p ≤ free_nodes l.rows + (1 + 2 * edges_to l.page_runs l.p);
  nodes_end : HasNoTree l.fn.rows l.fn.place → free_nodes l.fn.rows ≤ free_nodes l.rows + (1 + 2 * edges_to l.page_runs l.p);
  cost_open : HasNoTree l.fn.rows l.fn.place → l.p < MOST_PAGES → node_steps l.rows ≤ node_steps l.fn.rows + (entries_passed l.p + 36 * edges_to l.page_runs l.p);
  cost_end : HasNoTree l.fn.rows l.fn.place → node_steps l.rows ≤ node_steps l.fn.rows + (47 + 36 * edges_to l.page_runs l.p);
  idle : length l.page_runs ≡ 0 → node_steps l.rows ≡ node_steps l.fn.rows;
  idle_nodes : length l.page_runs ≡ 0 → free_nodes l.rows ≡ free_nodes l.fn.rows;
}

abbrev pub decreases-pieces : goal.decreases-pieces
decreases-pieces l = MOST_PAGES - l.p
