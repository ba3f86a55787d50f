-- The trees of rows.
use Rattle.std.proofs.Common.{◌≡◌, ℕ, ◌+◌, ◌<◌, ◌≤◌, arith, length, get_or, refl, subst, sym}
use Rattle.std.proofs.lemmas.List.{get_or_read}
use Rattle.node_pool.specs.Nodes.{free_of}
use Rattle.page_tree.specs.Pages.{page}
use Rattle.page_tree.specs.Sound.{IsTree}
use Rattle.cow_space.specs.declared.rows.Rows.{Rows}
use Rattle.cow_space.specs.Maps.{row_of}
use Rattle.page_tree.specs.Open as tree
use Rattle.page_tree.specs.Open.{entries_passed}
use Rattle.page_tree.specs.Short as short
use Rattle.page_tree.proofs.LinkLemmas.{link_short-le}
use Rattle.page_tree.proofs.OpenLemmas.{edges-later, open-empty, open-later, passed-later}
use Rattle.cow_space.specs.RowSeen.{HasNoTree, IsOpen, edge_short, maps}
use Rattle.cow_space.specs.Trees.{cell_value}
use Rattle.cow_space.proofs.Trees.{kept-free, kept-tree, row-page, rows-in}
use Rattle.page_tree.specs.declared.store.TheConstants.{PAGES}
use Rattle.cow_space.specs.declared.rows.TheConstants.{FREE_NODES}

module _ (w : Rows) where
  pub nodes-left : FREE_NODES ≤ free_of w.store.nodes.all
  nodes-left = kept-free w.store.nodes.all w.store.frames w.trees.items w.kept

  pub tree-in : (i : ℕ) → i < length (maps w) → i < length w.trees.items
  unfolding maps
  tree-in i inside = rows-in w.store.frames w.store.nodes.all w.trees.items i inside

  -- what is read is the tree of a row
  pub tree-read : (i tree : ℕ) → i < length (maps w) → tree ≡ get_or w.trees.items i tree → tree ≡ get_or w.trees.items i 0
  tree-read i tree inside is = get_or_read w.trees.items i tree (tree-in i inside) is 0

  pub is-tree : (i tree : ℕ) → i < length (maps w) → tree ≡ get_or w.trees.items i tree → IsTree w.store.nodes.all tree
  is-tree i tree inside is = kept-tree w.store.nodes.all w.store.frames w.trees.items i tree w.kept (tree-in i inside) (tree-read i tree inside is)

  pub row-value : (i p : ℕ) → i < length (maps w) → p < PAGES → row_of (maps w) i p ≡ cell_value w.store.frames (page w.store.nodes.all (get_or w.trees.items i 0) p)
  unfolding maps
  row-value i p inside below = row-page w.store.frames w.store.nodes.all w.trees.items i p (tree-in i inside) below

  -- a row without a tree is open at each page, and an open one at each later page
  pub row-bare : (i p : ℕ) → HasNoTree w i → IsOpen w i p
  unfolding HasNoTree IsOpen
  row-bare i p none = subst (λ t. tree.IsOpen w.store.nodes.all t p) (sym none) (open-empty w.store.nodes.all p)

  pub row-later : (i p q : ℕ) → p ≤ q → IsOpen w i p → IsOpen w i q
  unfolding IsOpen
  row-later i p q le is_open = open-later w.store.nodes.all (get_or w.trees.items i 0) p q le is_open

  -- how many nodes a range takes where it begins
  pub row-first : (i : ℕ) → edge_short w i 0 ≤ 1
  unfolding edge_short short.edge_short
  row-first i = link_short-le w.store.nodes.all (get_or w.trees.items i 0)

  pub row-edges : (i p q : ℕ) → edge_short w i q ≤ edge_short w i p + 2
  unfolding edge_short
  row-edges i p q = edges-later w.store.nodes.all (get_or w.trees.items i 0) p q

-- on the way to a page few entries are passed
pub few-passed : (p : ℕ) → p ≤ PAGES → entries_passed p ≤ 47
few-passed p inside = let most : entries_passed PAGES ≡ 16 = refl in omega (arith, passed-later p PAGES inside, most)
