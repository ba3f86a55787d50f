use Rattle.std.proofs.Common.{◌≡◌, ℕ, ◌<◌, ◌≤◌, ◌||◌, true, take}
use Rattle.std.specs.Prelude.{All, ◌==◌}
use Rattle.std.specs.List.{list_any}
use Rattle.lwc_types.specs.declared.limits.TheConstants.{MOST_PAGES}
use Rattle.range_map.specs.Kinds.{is_edge, state_at}
use Rattle.range_map.proofs.Alike.{HasNoEdge}
use Rattle.range_map.proofs.runs.next_edge.Given as goal

abbrev pub invariant-loop-change : goal.invariant-loop-change
invariant-loop-change l = record {
  past : l.page < l.edge;
  within : l.edge ≤ MOST_PAGES;
  alike : (q : ℕ) → l.page ≤ q → q < l.edge → state_at l.segments q ≡ state_at l.segments l.page;
  edge : l.edge < MOST_PAGES → (is_edge l.segments l.edge || list_any (λ c. (c.from == l.edge) || (c.to == l.edge)) (take l.change-index l.changes)) ≡ true;
  clear : All (λ c. HasNoEdge l.page l.edge c.from c.to) (take l.change-index l.changes);
}
