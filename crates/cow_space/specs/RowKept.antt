-- What ties the trees of rows to their store.
use Rattle.std.specs.Prelude.{◌≡◌, ℕ, ◌+◌, ◌*◌, ◌<◌, ◌≤◌, List, length}
use Rattle.frame_pool.specs.Frame.{Frame, frame_count, frame_stamp}
use Rattle.node_pool.specs.Nodes.{Node}
use Rattle.page_tree.specs.declared.store.TheConstants.{TREE_NODES}
use Rattle.page_tree.specs.Tied.{IsTied}
use Rattle.cow_space.specs.declared.rows.TheConstants.{FREE_NODES}

-- no two held frames have one stamp
abbrev pub IsStamped : List Frame → Type 0
IsStamped frames = (f g : ℕ) → 0 < frame_count frames f → 0 < frame_count frames g →
    frame_stamp frames f ≡ frame_stamp frames g → f ≡ g

-- nothing else holds anything of the store, each held frame has a stamp of its own, and there are nodes for
-- all trees and for one change
pub record IsKept (nodes : List Node) (frames : List Frame) (trees : List ℕ) : Type 0 where
  pub tied : IsTied nodes frames trees
  pub stamped : IsStamped frames
  pub room : TREE_NODES * length trees + FREE_NODES ≤ length nodes
