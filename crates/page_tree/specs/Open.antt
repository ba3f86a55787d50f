-- A tree whose pages are given to it in rising order.
use Rattle.std.specs.Prelude.{◌≡◌, ℕ, zero, suc, ◌+◌, ◌-◌, ◌/◌, ◌%◌, ◌^◌, ◌<◌, ◌⊎◌, List}
use Rattle.node_pool.specs.declared.pool.TheConstants.{NODE_ENTRIES}
use Rattle.node_pool.specs.Nodes.{Node, entry_of}
use Rattle.page_tree.specs.declared.store.TheConstants.{ROOT_LEVEL}
use Rattle.page_tree.specs.Pages.{link_of}
use Rattle.page_tree.specs.Short.{link_short}

-- a link of a level leads to nothing from its page p on, and nobody else holds a node on the way to p
unfoldable pub IsOpenBelow : List Node → ℕ → ℕ → ℕ → Type 0
IsOpenBelow nodes zero link p = link ≡ 0
IsOpenBelow nodes (suc level) link p =
    (link ≡ 0)
    ⊎ ((0 < p) × ((link_short nodes link ≡ 0)
    × (((i : ℕ) → p / NODE_ENTRIES ^ level < i → link_of nodes link i ≡ 0)
    × IsOpenBelow nodes level (link_of nodes link (p / NODE_ENTRIES ^ level)) (p % NODE_ENTRIES ^ level))))

-- a node of a level has no entries past that of its page p, whose link is open from there on
pub record IsOpenNode (nodes : List Node) (level n p : ℕ) : Type 0 where
  pub later : (i : ℕ) → p / NODE_ENTRIES ^ (level - 1) < i → entry_of nodes n i ≡ 0
  pub way : IsOpenBelow nodes (level - 1) (entry_of nodes n (p / NODE_ENTRIES ^ (level - 1)))
      (p % NODE_ENTRIES ^ (level - 1))

-- a tree has nothing from page p on, and nobody else holds a node on the way there
abbrev pub IsOpen : List Node → ℕ → ℕ → Type 0
IsOpen nodes tree p = IsOpenBelow nodes ROOT_LEVEL tree p

-- on the way down to a page, how many entries of nodes above the leaves come before those of the way
abbrev pub passed_below : ℕ → ℕ → ℕ
passed_below zero p = 0
passed_below (suc zero) p = 0
passed_below (suc (suc level)) p =
    p / NODE_ENTRIES ^ suc level + passed_below (suc level) (p % NODE_ENTRIES ^ suc level)

-- on the way down a tree to a page
abbrev pub entries_passed : ℕ → ℕ
entries_passed p = passed_below ROOT_LEVEL p
