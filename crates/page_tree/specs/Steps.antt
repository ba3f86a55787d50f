-- What the steps of a change do, at a node of any level: words of the functions that trees are made of.
use Rattle.std.specs.Prelude.{◌≡◌, ℕ, zero, suc, ◌+◌, ◌<◌, ◌==◌, ◌⊎◌, List, length}
use Rattle.frame_pool.specs.Frame.{Frame, frame_count, frame_stamp, frame_bytes}
use Rattle.node_pool.specs.Nodes.{Node, node_at, count_of, level_of}
use Rattle.page_tree.specs.Pages.{entries_of, link_of}
use Rattle.page_tree.specs.Sound.{one_if, leading_to}
use Rattle.page_tree.specs.Changes.{IsBelow, KeepsFrames}

-- a node of a level that is held once, and that no entry leads to
pub record IsOwned (nodes : List Node) (level n : ℕ) : Type 0 where
  pub level_is : level_of nodes n ≡ level
  pub once : count_of nodes n ≡ 1
  pub free : leading_to nodes n ≡ 0

-- a link leads to nothing, or to a node of a level that is held once more than entries lead to it
abbrev pub IsLoose : List Node → ℕ → ℕ → Type 0
IsLoose nodes level link = (n : ℕ) → link ≡ n + 1 → (level_of nodes n ≡ level) × (leading_to nodes n < count_of nodes n)

-- a node that is held beside the entries that lead to it, and beside these holds
abbrev pub IsOther : List Node → (ℕ → ℕ) → ℕ → Type 0
IsOther nodes out n = out n + leading_to nodes n < count_of nodes n

-- a node has the level and the entries that it had
pub record IsSame (old new : List Node) (n : ℕ) : Type 0 where
  pub level_is : level_of new n ≡ level_of old n
  pub entries : entries_of new n ≡ entries_of old n

-- nodes up to a level changed, some holds of nodes were given up for others, and what is below nodes that are
-- held besides is as it was
pub record Moves (level : ℕ) (old new : List Node) (frames frames' : List Frame) (out come : ℕ → ℕ) : Type 0 where
  pub size : length new ≡ length old
  pub holds : (n : ℕ) → (count_of new n + leading_to old n) + out n ≡ (count_of old n + leading_to new n) + come n
  pub same : (t n : ℕ) → IsOther old out t → IsBelow old (level_of old t) (t + 1) n → IsSame old new n
  pub higher : (n : ℕ) → 0 < count_of old n → level < level_of old n → node_at new n ≡ node_at old n
  pub framed : KeepsFrames old new frames frames'

-- on the way down from a link to a node x, something is said of each node
unfoldable pub IsWay : (ℕ → Type 0) → List Node → ℕ → ℕ → ℕ → Type 0
IsWay P nodes zero link x = ⊥
IsWay P nodes (suc k) link x =
    (m : ℕ) × ((link ≡ m + 1) × (P m × ((m ≡ x) ⊎ ((i : ℕ) × IsWay P nodes k (link_of nodes link i) x))))

-- a node is held once, and is none of these
abbrev pub IsLone : List Node → (ℕ → Type 0) → ℕ → Type 0
IsLone nodes shared m = (count_of nodes m ≡ 1) × (shared m → ⊥)

-- what is on a way of such nodes from a node that is held besides is still held once
abbrev pub KeepsLone : List Node → List Node → (ℕ → ℕ) → (ℕ → Type 0) → Type 0
KeepsLone old new out shared =
    (t x : ℕ) → IsOther old out t → IsWay (IsLone old shared) old (level_of old t) (t + 1) x → count_of new x ≡ 1

-- none is shared
abbrev pub none_shared : ℕ → Type 0
none_shared m = ⊥

-- a link leads to a node
abbrev pub leads_to : ℕ → ℕ → Type 0
leads_to link m = link ≡ m + 1

-- a link leads to nothing, or to a node of a level, and all below it is below nodes that are held besides
pub record IsBeside (nodes : List Node) (out : ℕ → ℕ) (level link : ℕ) : Type 0 where
  pub level_is : (n : ℕ) → link ≡ n + 1 → level_of nodes n ≡ level
  pub above : (n : ℕ) → IsBelow nodes level link n → (t : ℕ) ×
      (IsOther nodes out t × IsBelow nodes (level_of nodes t) (t + 1) n)

-- the frame that an entry names, if it names one, is held once more
pub record HoldsMore (frames frames' : List Frame) (e : ℕ) : Type 0 where
  pub size : length frames' ≡ length frames
  pub counts : (f : ℕ) → frame_count frames' f ≡ frame_count frames f + one_if (e == f + 2)
  pub stamps : (f : ℕ) → frame_stamp frames' f ≡ frame_stamp frames f
  pub bytes : (f : ℕ) → frame_bytes frames' f ≡ frame_bytes frames f

-- the frame that an entry names, if it names one, is held once less
pub record HoldsLess (frames frames' : List Frame) (e : ℕ) : Type 0 where
  pub size : length frames' ≡ length frames
  pub counts : (f : ℕ) → frame_count frames' f + one_if (e == f + 2) ≡ frame_count frames f
  pub stamps : (f : ℕ) → frame_stamp frames' f ≡ frame_stamp frames f
  pub bytes : (f : ℕ) → frame_bytes frames' f ≡ frame_bytes frames f
