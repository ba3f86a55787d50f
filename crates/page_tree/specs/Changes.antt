-- What a change of one tree leaves as it was.
use Rattle.std.specs.Prelude.{◌≡◌, ℕ, zero, suc, ◌+◌, ◌<◌, ◌⊎◌, List, length}
use Rattle.frame_pool.specs.Frame.{Frame, frame_count, frame_stamp, frame_bytes}
use Rattle.node_pool.specs.Nodes.{Node}
use Rattle.page_tree.specs.declared.store.TheConstants.{ROOT_LEVEL}
use Rattle.page_tree.specs.Pages.{entries_of, link_of, page}
use Rattle.page_tree.specs.Sound.{naming, trees_at, is_root}

-- a node is what a link leads to, or lies below that, within this number of levels
abbrev pub IsBelow : List Node → ℕ → ℕ → ℕ → Type 0
IsBelow nodes zero link n = ⊥
IsBelow nodes (suc levels) link n = (link ≡ n + 1) ⊎ ((i : ℕ) × IsBelow nodes levels (link_of nodes link i) n)

-- a tree leads to a node: it is the tree's root, or below it
abbrev pub IsReached : List Node → ℕ → ℕ → Type 0
IsReached nodes tree n = IsBelow nodes ROOT_LEVEL tree n

-- one tree left its root and came to another: the other trees keep their roots, and the entries of each node
-- that they lead to
pub record KeepsTrees (old new : List Node) (left came : ℕ) : Type 0 where
  pub size : length new ≡ length old
  pub roots : (n : ℕ) → trees_at new n + is_root left n ≡ trees_at old n + is_root came n
  pub reached : (t n : ℕ) → is_root left t < trees_at old t → IsReached old (t + 1) n →
      entries_of new n ≡ entries_of old n

-- the trees that keep their roots stand for the same maps
abbrev pub KeepsMaps : List Node → List Node → ℕ → Type 0
KeepsMaps old new left = (t p : ℕ) → is_root left t < trees_at old t → page new (t + 1) p ≡ page old (t + 1) p

-- there are as many frames, a free one stays free, and each has its bytes and its stamp and is held more or
-- less by just as much as more or fewer entries name it
pub record KeepsFrames (old new : List Node) (frames frames' : List Frame) : Type 0 where
  pub size : length frames' ≡ length frames
  pub free : (f : ℕ) → frame_count frames f ≡ 0 → frame_count frames' f ≡ 0
  pub holds : (f : ℕ) → frame_count frames' f + naming old f ≡ frame_count frames f + naming new f
  pub stamps : (f : ℕ) → frame_stamp frames' f ≡ frame_stamp frames f
  pub bytes : (f : ℕ) → frame_bytes frames' f ≡ frame_bytes frames f
