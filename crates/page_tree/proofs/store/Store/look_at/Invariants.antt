use Rattle.std.proofs.Common.{◌≡◌, ◌^◌, ◌+◌, ◌<◌, ◌≤◌, ℕ, true, false}
use Rattle.node_pool.specs.Nodes.{count_of, level_of}
use Rattle.page_tree.specs.Pages.{entry_below}
use Rattle.page_tree.specs.Short.{short_below}
use Rattle.page_tree.proofs.store.Store.look_at.Given as goal

-- what is below the link that was come to is what is below the root
abbrev pub invariant-levels : goal.invariant-levels
invariant-levels l = record {
  high : l.level ≤ 3;
  held : (n : ℕ) → 0 < l.level → l.link ≡ n + 1 → (level_of l.self.nodes.all n ≡ l.level) × (0 < count_of l.self.nodes.all n);
  within : l.p < 32 ^ l.level;
  entry : entry_below l.self.nodes.all l.level l.link l.p ≡ entry_below l.self.nodes.all 3 l.root l.page;
  alone : l.alone ≡ true → short_below l.self.nodes.all l.level l.link l.p ≡ short_below l.self.nodes.all 3 l.root l.page;
  shared : l.alone ≡ false → 0 < short_below l.self.nodes.all 3 l.root l.page;
}

abbrev pub decreases-levels : goal.decreases-levels
decreases-levels l = l.level
