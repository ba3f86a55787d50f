-- A tree as a map from pages to cells.
use Rattle.std.specs.Prelude.{ℕ, zero, suc, ◌+◌, ◌-◌, ◌/◌, ◌%◌, ◌^◌, ◌==◌, if◌then◌else◌, List}
use Rattle.node_pool.specs.declared.pool.TheConstants.{NODE_ENTRIES}
use Rattle.node_pool.specs.Nodes.{Node, node_at, entry_of}
use Rattle.page_tree.specs.declared.cell.PageCell.{PageCell}
use Rattle.page_tree.specs.declared.cell.PageCell.TheVariants.{Absent, Zero, Frame}
use Rattle.page_tree.specs.declared.store.TheConstants.{ROOT_LEVEL}

-- what an entry of a leaf says of its page: 0 is absent, 1 is zeros, and n + 2 is frame n
abbrev pub cell_of : ℕ → PageCell
cell_of e = if e == 0 then Absent else (if e == 1 then Zero else Frame (record { n = e - 2 }))

-- the entry that says so of a page
abbrev pub entry_for : PageCell → ℕ
entry_for Absent = 0
entry_for Zero = 1
entry_for (Frame frame) = frame.n + 2

-- the entries of a node
abbrev pub entries_of : List Node → ℕ → List ℕ
entries_of nodes n = (node_at nodes n).entries

-- an entry of what a link leads to, as a tree leads to its root: 0 is nothing, and n + 1 is node n
unfoldable pub link_of : List Node → ℕ → ℕ → ℕ
link_of nodes link i = if link == 0 then 0 else entry_of nodes (link - 1) i

-- the entry for a page on the way down from what a link leads to, which has this level
unfoldable pub entry_below : List Node → ℕ → ℕ → ℕ → ℕ
entry_below nodes zero link p = link
entry_below nodes (suc level) link p =
    entry_below nodes level (link_of nodes link (p / NODE_ENTRIES ^ level)) (p % NODE_ENTRIES ^ level)

-- what a tree has for a page
unfoldable pub page : List Node → ℕ → ℕ → PageCell
page nodes tree p = cell_of (entry_below nodes ROOT_LEVEL tree p)
