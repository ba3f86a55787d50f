use Rattle.std.proofs.Common.{◌≡◌, ◌≤◌, ◌+◌, ◌*◌, ℕ}
use Rattle.node_pool.specs.Nodes.{free_of}
use Rattle.page_tree.specs.Sound.{IsSound, trees_at}
use Rattle.table_suite.proofs.trees.try_ranges.Given as goal

abbrev pub invariant-table : goal.invariant-table
invariant-table g l =
    record {
      sound : IsSound l.store.nodes.all l.store.frames;
      trees : (n : ℕ) → trees_at l.store.nodes.all n ≡ trees_at l.initial.store.nodes.all n;
      room : free_of l.initial.store.nodes.all ≤ free_of l.store.nodes.all + 15 * l.from-index;
    }
