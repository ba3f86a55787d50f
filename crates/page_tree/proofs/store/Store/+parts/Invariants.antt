use Rattle.std.proofs.Common.{◌≡◌, ◌+◌, ◌-◌, ◌*◌, ◌<◌, ◌≤◌, ◌≢◌, ℕ, min, slice_index}
use Rattle.node_pool.specs.Nodes.{entry_of, free_of}
use Rattle.page_tree.specs.Costs.{entries_in, most_nodes}
use Rattle.page_tree.specs.Sound.{IsSoundTo, is_root}
use Rattle.page_tree.specs.Steps.{IsOwned, KeepsLone, Moves, none_shared}
use Rattle.page_tree.proofs.store.Store.+parts.Given as goal

abbrev pub decreases-put : goal.decreases-put
decreases-put l = 3 * l.level

abbrev pub decreases-empty : goal.decreases-empty
decreases-empty l = 3 * l.level + 1

abbrev pub decreases-release : goal.decreases-release
decreases-release l = 3 * l.level + 2

abbrev pub decreases-empty-entries : goal.decreases-empty-entries
decreases-empty-entries l = 32 - l.i

abbrev pub invariant-empty-entries : goal.invariant-empty-entries
invariant-empty-entries l =
    record {
      inside : l.i ≤ 32;
      link : l.i < 32 → slice_index l.links l.i ≢ 0;
      sound : IsSoundTo l.level l.self.nodes.all l.self.frames;
      own : IsOwned l.self.nodes.all l.level l.node.n;
      moves : Moves l.level l.initial.self.nodes.all l.self.nodes.all l.initial.self.frames l.self.frames (is_root (l.node.n + 1)) (is_root (l.node.n + 1));
      done : (k : ℕ) → k < l.i → entry_of l.self.nodes.all l.node.n k ≡ 0;
      rest : (k : ℕ) → l.i ≤ k → entry_of l.self.nodes.all l.node.n k ≡ entry_of l.initial.self.nodes.all l.node.n k;
      free : free_of l.initial.self.nodes.all ≤ free_of l.self.nodes.all;
      lone : KeepsLone l.initial.self.nodes.all l.self.nodes.all (is_root (l.node.n + 1)) none_shared;
      cost : l.self.nodes.steps ≤ l.initial.self.nodes.steps + min l.i (entries_in l.level) * most_nodes (l.level - 1);
    }
