-- What rows over a store are seen as.
use Rattle.std.specs.Prelude.{◌≡◌, ℕ, List, Option, length, slice_index}
use Rattle.lwc_types.specs.declared.name.Tag.{Tag}
use Rattle.lwc_types.specs.declared.page.PageValue.{PageValue}
use Rattle.frame_pool.specs.Frame.{frame_bytes, frame_stamp}
use Rattle.frame_pool.specs.Frame as frames
use Rattle.std.proofs.Math.Nat.{ℕ_set}
use Rattle.node_pool.specs.Nodes.{free_of}
use Rattle.page_tree.specs.Open as tree
use Rattle.page_tree.specs.Short.{link_short}
use Rattle.page_tree.specs.Short as tree_short
use Rattle.cow_space.specs.declared.rows.Rows.{Rows}
use Rattle.cow_space.specs.Trees.{tree_maps}

-- the maps of the rows
unfoldable pub maps : Rows → List (ℕ → Option PageValue)
maps w = tree_maps w.store.frames w.store.nodes.all w.trees.items

-- how many frames there are
unfoldable pub frames_of : Rows → ℕ
frames_of w = length w.store.frames

-- the stamp and the bytes of each frame, in use or free
unfoldable pub pool : Rows → ℕ → Tag × List ℕ
pool w f = (frame_stamp w.store.frames f, frame_bytes w.store.frames f)

-- how many frames are free
unfoldable pub free_frames : Rows → ℕ
free_frames w = frames.free_frames w.store.frames

-- how many tree nodes are free
unfoldable pub free_nodes : Rows → ℕ
free_nodes w = free_of w.store.nodes.all

-- how many node steps were taken
abbrev pub node_steps : Rows → ℕ
node_steps w = w.store.nodes.steps

-- a row shares the root of its tree with no other
unfoldable pub HasOwnRoot : Rows → ℕ → Type 0
HasOwnRoot w i = link_short w.store.nodes.all (slice_index w.trees.items i) ≡ 0

-- a row has no tree: it holds no node
unfoldable pub HasNoTree : Rows → ℕ → Type 0
HasNoTree w i = slice_index w.trees.items i ≡ 0

-- a row has no page from one on, and shares no node on the way there with another
unfoldable pub IsOpen : Rows → ℕ → ℕ → Type 0
IsOpen w i p = tree.IsOpen w.store.nodes.all (slice_index w.trees.items i) p

-- how many nodes a range of a row that begins or ends at a page takes there
unfoldable pub edge_short : Rows → ℕ → ℕ → ℕ
edge_short w i p = tree_short.edge_short w.store.nodes.all (slice_index w.trees.items i) p

-- in at most one way
pub no_tree-prop : (w : Rows) (i : ℕ) → IsProp (HasNoTree w i)
unfolding HasNoTree
no_tree-prop w i = ℕ_set (slice_index w.trees.items i) 0
