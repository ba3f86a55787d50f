use Rattle.std.proofs.Common.{◌≡◌, ◌≤◌, ◌<◌, ◌+◌, ◌*◌, length}
use Rattle.node_pool.specs.Nodes.{free_of}
use Rattle.page_tree.specs.Sound.{IsSound, IsTree}
use Rattle.page_tree.specs.Short.{link_short}
use Rattle.table_suite.proofs.trees.fill.Given as goal

abbrev pub invariant-pages : goal.invariant-pages
invariant-pages l =
    record {
      sound : IsSound l.store.nodes.all l.store.frames;
      tree : IsTree l.store.nodes.all l.tree;
      alone : 0 < l.k → link_short l.store.nodes.all l.tree ≡ 0;
      room : free_of l.initial.store.nodes.all ≤ free_of l.store.nodes.all + 3 * l.k;
      size : length l.store.nodes.all ≡ length l.initial.store.nodes.all;
    }
