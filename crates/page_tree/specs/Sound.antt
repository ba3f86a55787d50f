-- When a store of nodes and frames is sound.
use Rattle.std.specs.Prelude.{◌≡◌, ℕ, ◌+◌, ◌^◌, ◌<◌, ◌≤◌, ◌==◌, if◌then◌else◌, Bool, nat_lt, List, length, sum_by}
use Rattle.std.specs.Prelude.{count_by}
use Rattle.frame_pool.specs.Frame.{Frame, frame_count}
use Rattle.node_pool.specs.declared.pool.TheConstants.{NODE_ENTRIES}
use Rattle.node_pool.specs.Nodes.{Node, count_of, level_of, entry_of}
use Rattle.page_tree.specs.declared.store.TheConstants.{LEAF_LEVEL, ROOT_ENTRIES, ROOT_LEVEL}
use Rattle.page_tree.specs.Pages.{entries_of}

-- 1 where a test passes, else 0
abbrev pub one_if : Bool → ℕ
one_if b = if b then 1 else 0

-- nodes of this level are leaves
abbrev pub is_leaf : ℕ → Bool
is_leaf level = level == LEAF_LEVEL

-- nodes of this level are above the leaves
abbrev pub is_inner : ℕ → Bool
is_inner level = nat_lt LEAF_LEVEL level

-- how many entries of a node are this one, where its level passes a test
abbrev pub uses_in : (ℕ → Bool) → ℕ → Node → ℕ
uses_in test e node = if test node.level then count_by (λ x. x == e) node.entries else 0

-- how many entries of all nodes whose level passes a test are this one
unfoldable pub uses : (ℕ → Bool) → List Node → ℕ → ℕ
uses test nodes e = sum_by (uses_in test e) nodes

-- how many entries of nodes above the leaves lead to a node
abbrev pub leading_to : List Node → ℕ → ℕ
leading_to nodes n = uses is_inner nodes (n + 1)

-- how many entries of leaves name a frame
abbrev pub naming : List Node → ℕ → ℕ
naming nodes f = uses is_leaf nodes (f + 2)

-- every entry leads to what is held and one level lower, each node is held as often as entries lead to it or
-- more, and not more where it is below a level, and each frame is held as often as entries name it or up to
-- 2^31 times more
pub record IsSoundTo (top : ℕ) (nodes : List Node) (frames : List Frame) : Type 0 where
  pub few : length nodes ≤ 1048576
  pub few_frames : length frames ≤ 65536
  pub shape : (n : ℕ) → n < length nodes → length (entries_of nodes n) ≡ NODE_ENTRIES
  pub clean : (n i : ℕ) → count_of nodes n ≡ 0 → entry_of nodes n i ≡ 0
  pub levels : (n : ℕ) → 0 < count_of nodes n → (LEAF_LEVEL ≤ level_of nodes n) × (level_of nodes n ≤ ROOT_LEVEL)
  pub narrow : (n i : ℕ) → level_of nodes n ≡ ROOT_LEVEL → ROOT_ENTRIES ≤ i → entry_of nodes n i ≡ 0
  pub held : (n i m : ℕ) → LEAF_LEVEL < level_of nodes n → entry_of nodes n i ≡ m + 1 → 0 < count_of nodes m
  pub below : (n i m : ℕ) → LEAF_LEVEL < level_of nodes n → entry_of nodes n i ≡ m + 1 →
      level_of nodes m + 1 ≡ level_of nodes n
  pub led : (n : ℕ) → leading_to nodes n ≤ count_of nodes n
  pub counted : (n : ℕ) → level_of nodes n < top → count_of nodes n ≡ leading_to nodes n
  pub framed : (f : ℕ) → naming nodes f ≤ frame_count frames f
  pub near : (f : ℕ) → frame_count frames f < naming nodes f + 2 ^ 31

-- each node below the roots is held as often as entries lead to it
abbrev pub IsSound : List Node → List Frame → Type 0
IsSound nodes frames = IsSoundTo ROOT_LEVEL nodes frames

-- how many trees have a root
abbrev pub trees_at : List Node → ℕ → ℕ
trees_at nodes n = if level_of nodes n == ROOT_LEVEL then count_of nodes n else 0

-- a tree is empty, or has a root that is held, and by fewer than 2^31 trees
abbrev pub IsTree : List Node → ℕ → Type 0
IsTree nodes tree = (n : ℕ) → tree ≡ n + 1 → (0 < trees_at nodes n) × (trees_at nodes n < 2 ^ 31)

-- 1 where a link leads to a node, as a tree to its root, else 0
abbrev pub is_root : ℕ → ℕ → ℕ
is_root link n = one_if (link == n + 1)
