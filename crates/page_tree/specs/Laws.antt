-- What the laws of trees say.
use Rattle.std.specs.Prelude.{◌≡◌, ◌≢◌, ℕ, ◌+◌, ◌-◌, ◌*◌, ◌^◌, ◌<◌, ◌≤◌, ◌⊎◌, ◌↔◌, List, length, slice_index}
use Rattle.frame_pool.specs.Frame.{Frame, frame_count}
use Rattle.node_pool.specs.declared.pool.TheConstants.{NODE_ENTRIES}
use Rattle.node_pool.specs.Nodes.{Node, free_of}
use Rattle.page_tree.specs.declared.cell.PageCell.TheVariants.{Absent}
use Rattle.page_tree.specs.declared.cell.PageCell.TheVariants as cell
use Rattle.page_tree.specs.declared.store.TheConstants.{PAGES, ROOT_ENTRIES, ROOT_LEVEL, TREE_NODES}
use Rattle.page_tree.specs.Open.{IsOpen, entries_passed}
use Rattle.page_tree.specs.Pages.{page}
use Rattle.page_tree.specs.Short.{clear_short, edge_short, page_short, range_short, link_short}
use Rattle.page_tree.specs.Sound.{IsTree}
use Rattle.page_tree.specs.Tied.{IsTied, HasElsewhere, HasFrame, page_of}

-- the laws of one tree: it has a page for each way down, the empty one has none, and a change of a page or a
-- range takes few nodes
pub record TreeLaws : Type 0 where
  pub pages : PAGES ≡ ROOT_ENTRIES * NODE_ENTRIES ^ (ROOT_LEVEL - 1)
  pub empty : (nodes : List Node) (p : ℕ) → page nodes 0 p ≡ Absent
  pub page_takes : (nodes : List Node) (tree p : ℕ) → page_short nodes tree p ≤ ROOT_LEVEL
  pub range_takes : (nodes : List Node) (tree from to : ℕ) → range_short nodes tree from to ≤ link_short nodes tree + 4
  pub root_takes : (nodes : List Node) (tree : ℕ) → link_short nodes tree ≤ 1
  pub clear_takes : (nodes : List Node) (tree from to : ℕ) → clear_short nodes tree from to ≤ link_short nodes tree + 4

-- the laws of open trees: the empty one is open, each is open from later pages on, where a range that begins
-- takes few more nodes, and few entries passed are not passed there
pub record OpenLaws : Type 0 where
  pub empty : (nodes : List Node) (p : ℕ) → IsOpen nodes 0 p
  pub later : (nodes : List Node) (tree p q : ℕ) → p ≤ q → IsOpen nodes tree p → IsOpen nodes tree q
  pub edges : (nodes : List Node) (tree p q : ℕ) → edge_short nodes tree q ≤ edge_short nodes tree p + 2
  pub passed : (p q : ℕ) → p ≤ q → entries_passed p ≤ entries_passed q + 31

-- the laws of all trees of a store: each is a tree, they take few nodes each, the held frames are those at
-- pages, and a page's frame is elsewhere too where the way to the page is shared or the frame is held more
-- than once
pub record TiedLaws : Type 0 where
  pub are_trees : (nodes : List Node) (frames : List Frame) (trees : List ℕ) (k : ℕ) →
      IsTied nodes frames trees → length trees ≤ 65536 → k < length trees → IsTree nodes (slice_index trees k)
  pub free : (nodes : List Node) (frames : List Frame) (trees : List ℕ) → IsTied nodes frames trees →
      length nodes ≤ free_of nodes + TREE_NODES * length trees
  pub held : (nodes : List Node) (frames : List Frame) (trees : List ℕ) (f : ℕ) → IsTied nodes frames trees →
      0 < frame_count frames f → HasFrame nodes trees f
  pub has_held : (nodes : List Node) (frames : List Frame) (trees : List ℕ) (f : ℕ) →
      IsTied nodes frames trees → HasFrame nodes trees f → 0 < frame_count frames f
  pub elsewhere : (nodes : List Node) (frames : List Frame) (trees : List ℕ) (k p f : ℕ) →
      IsTied nodes frames trees → k < length trees → p < PAGES →
      page_of nodes trees k p ≡ cell.Frame (record { n = f }) →
      HasElsewhere nodes trees k p f ↔ ((page_short nodes (slice_index trees k) p ≢ 0) ⊎ (1 < frame_count frames f))
