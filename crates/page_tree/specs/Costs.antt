-- How many node steps a change takes at most.
use Rattle.std.specs.Prelude.{ℕ, zero, suc, ◌+◌, ◌-◌, ◌*◌, ◌^◌, ◌==◌, if◌then◌else◌}
use Rattle.node_pool.specs.declared.pool.TheConstants.{NODE_ENTRIES}
use Rattle.page_tree.specs.declared.store.TheConstants.{LEAF_LEVEL, ROOT_ENTRIES, ROOT_LEVEL}
use Rattle.page_tree.specs.Open.{passed_below}

-- how many entries of a node of a level are in use
abbrev pub entries_in : ℕ → ℕ
entries_in level = if level == ROOT_LEVEL then ROOT_ENTRIES else NODE_ENTRIES

-- how many nodes there are from a node of a level on down
abbrev pub most_nodes : ℕ → ℕ
most_nodes zero = 0
most_nodes (suc level) = 1 + entries_in (suc level) * most_nodes level

-- for a copy of a node: it is taken, what its entries lead to is held, and the node is given up
abbrev pub copy_steps : ℕ → ℕ
copy_steps level = if level == LEAF_LEVEL then 2 else 2 + entries_in level

-- for copies of all nodes on the way down to a page
abbrev pub way_steps : ℕ → ℕ
way_steps zero = 0
way_steps (suc level) = copy_steps (suc level) + way_steps level

-- for another link in an entry of a node: it is held, and the one that was there is given up
abbrev pub entry_steps : ℕ → ℕ
entry_steps level = if level == LEAF_LEVEL then 0 else 1 + most_nodes (level - 1)

-- for a range of the pages of a link: a copy of the node, its entries, and the two that the range meets in
-- part
abbrev pub share_steps : ℕ → ℕ
share_steps zero = 0
share_steps (suc level) =
    copy_steps (suc level) + entries_in (suc level) * entry_steps (suc level) + 2 * share_steps level

-- for a range of the pages of an open link, beside one for each entry that it passes
abbrev pub open_steps : ℕ → ℕ
open_steps zero = 0
open_steps (suc zero) = 1
open_steps (suc (suc level)) = 2 * open_steps (suc level) + passed_below (suc level) (NODE_ENTRIES ^ suc level)
