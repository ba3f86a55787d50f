use Rattle.std.proofs.Common.{◌≡◌, ◌+◌, ◌-◌, ◌*◌, ◌/◌, ◌^◌, ◌<◌, ◌≤◌, ◌⊎◌, ℕ}
use Rattle.node_pool.specs.Nodes.{entry_of, free_of}
use Rattle.page_tree.specs.Costs.{entry_steps, share_steps}
use Rattle.page_tree.specs.Open.{IsOpenNode}
use Rattle.page_tree.specs.Pages.{entry_below}
use Rattle.page_tree.specs.Short.{entry_short, range_below}
use Rattle.page_tree.specs.Sound.{IsSoundTo, is_root}
use Rattle.page_tree.specs.Steps.{IsOwned, KeepsLone, Moves}
use Rattle.page_tree.specs.Changes.{IsBelow}
use Rattle.pool_base.proofs.Totals.{total}
use Rattle.page_tree.proofs.OpenRange.{Opens}
use Rattle.page_tree.proofs.store.Store.+shares.Given as goal

abbrev pub decreases-share_entry : goal.decreases-share_entry
decreases-share_entry l = 3 * l.level

abbrev pub decreases-share_entries : goal.decreases-share_entries
decreases-share_entries l = 3 * l.level + 1

abbrev pub decreases-share_at : goal.decreases-share_at
decreases-share_at l = 3 * l.level + 2

abbrev pub invariant-share_entries-entries : goal.invariant-share_entries-entries
invariant-share_entries-entries l =
    record {
      sound : IsSoundTo l.level l.self.nodes.all l.self.frames;
      own : IsOwned l.self.nodes.all l.level l.node.n;
      moves : Moves l.level l.initial.self.nodes.all l.self.nodes.all l.initial.self.frames l.self.frames (is_root (l.node.n + 1)) (is_root (l.node.n + 1));
      within : (q : ℕ) → l.first ≤ q → q < l.end → q / 32 ^ (l.level - 1) < l.i → entry_below l.self.nodes.all l.level (l.node.n + 1) q ≡ entry_below l.initial.self.nodes.all l.level l.from q;
      rest : (q : ℕ) → q < 32 ^ l.level → (q < l.first) ⊎ ((l.end ≤ q) ⊎ (l.i ≤ q / 32 ^ (l.level - 1))) → entry_below l.self.nodes.all l.level (l.node.n + 1) q ≡ entry_below l.initial.self.nodes.all l.level (l.node.n + 1) q;
      cost_first : l.i ≤ l.first / 32 ^ (l.level - 1) → l.self.nodes.steps ≡ l.initial.self.nodes.steps;
      cost_middle : l.i ≤ (l.end - 1) / 32 ^ (l.level - 1) → l.self.nodes.steps ≤ l.initial.self.nodes.steps + ((l.i - l.first / 32 ^ (l.level - 1)) * entry_steps l.level + share_steps (l.level - 1));
      cost_all : l.self.nodes.steps ≤ l.initial.self.nodes.steps + ((l.i - l.first / 32 ^ (l.level - 1)) * entry_steps l.level + 2 * share_steps (l.level - 1));
      cost_leaf : l.level ≡ 1 → l.self.nodes.steps ≡ l.initial.self.nodes.steps;
      opens : IsOpenNode l.initial.self.nodes.all l.level l.node.n l.first → Opens l.level l.first l.end l.i l.initial.self.nodes.all l.self.nodes.all l.node.n l.initial.self.nodes.steps l.self.nodes.steps;
      free : free_of l.initial.self.nodes.all ≤ free_of l.self.nodes.all + total (entry_short l.initial.self.nodes.all l.level l.node.n l.first l.end) l.i;
      lone : KeepsLone l.initial.self.nodes.all l.self.nodes.all (is_root (l.node.n + 1)) (IsBelow l.initial.self.nodes.all l.level l.from);
      short : (k p q : ℕ) → l.i ≤ k → range_below l.self.nodes.all (l.level - 1) (entry_of l.self.nodes.all l.node.n k) p q ≤ range_below l.initial.self.nodes.all (l.level - 1) (entry_of l.initial.self.nodes.all l.node.n k) p q;
    }
