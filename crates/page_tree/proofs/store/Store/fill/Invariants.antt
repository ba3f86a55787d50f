use Rattle.std.proofs.Common.{◌≡◌, ◌+◌, ◌*◌, ◌<◌, ◌≤◌, ◌≢◌, ◌-◌, ℕ, min, slice_index}
use Rattle.frame_pool.specs.Frame.{frame_count}
use Rattle.node_pool.specs.Nodes.{node_at, entry_of, free_of}
use Rattle.page_tree.specs.Costs.{entries_in}
use Rattle.page_tree.specs.Sound.{IsSoundTo, is_root}
use Rattle.page_tree.specs.Steps.{IsOwned, KeepsLone, Moves, none_shared}
use Rattle.page_tree.proofs.store.Store.fill.Given as goal

abbrev pub decreases-entries : goal.decreases-entries
decreases-entries l = 32 - l.i

abbrev pub invariant-entries : goal.invariant-entries
invariant-entries l =
    record {
      inside : l.i ≤ 32;
      link : l.i < 32 → slice_index l.links l.i ≢ 0;
      sound : IsSoundTo l.level l.self.nodes.all l.self.frames;
      own : IsOwned l.self.nodes.all l.level l.copy.n;
      moves : Moves l.level l.initial.self.nodes.all l.self.nodes.all l.initial.self.frames l.self.frames (is_root (l.copy.n + 1)) (is_root (l.copy.n + 1));
      done : (k : ℕ) → k < l.i → entry_of l.self.nodes.all l.copy.n k ≡ entry_of l.initial.self.nodes.all l.fn.node.n k;
      rest : (k : ℕ) → l.i ≤ k → entry_of l.self.nodes.all l.copy.n k ≡ 0;
      peer : node_at l.self.nodes.all l.fn.node.n ≡ node_at l.initial.self.nodes.all l.fn.node.n;
      free : free_of l.initial.self.nodes.all ≤ free_of l.self.nodes.all;
      grows : (f : ℕ) → frame_count l.initial.self.frames f ≤ frame_count l.self.frames f;
      lone : KeepsLone l.initial.self.nodes.all l.self.nodes.all (is_root (l.copy.n + 1)) none_shared;
      cost : l.self.nodes.steps ≤ l.initial.self.nodes.steps + min l.i (entries_in l.level) * 1;
      cost_leaf : l.level ≡ 1 → l.self.nodes.steps ≡ l.initial.self.nodes.steps;
    }
