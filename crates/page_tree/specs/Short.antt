-- How many nodes a change of pages must take.
use Rattle.std.specs.Prelude.{ℕ, zero, suc, ◌+◌, ◌-◌, ◌*◌, ◌/◌, ◌%◌, ◌^◌, ◌==◌, ◌&&◌, if◌then◌else◌, Bool, min}
use Rattle.std.specs.Prelude.{nat_lt, not, List}
use Rattle.std.specs.List.{range_with_len, sum_by}
use Rattle.node_pool.specs.declared.pool.TheConstants.{NODE_ENTRIES}
use Rattle.node_pool.specs.Nodes.{Node, count_of, entry_of}
use Rattle.page_tree.specs.declared.store.TheConstants.{PAGES, ROOT_LEVEL}
use Rattle.page_tree.specs.Pages.{link_of}

-- 1 where what a link leads to must be taken: it is absent, or held by others too
unfoldable pub link_short : List Node → ℕ → ℕ
link_short nodes link = if link == 0 then 1 else (if count_of nodes (link - 1) == 1 then 0 else 1)

-- for one page: the nodes on the way down from a link, from the first one on that is absent or held by others
-- too
unfoldable pub short_below : List Node → ℕ → ℕ → ℕ → ℕ
short_below nodes zero link p = 0
short_below nodes (suc level) link p =
    if link_short nodes link == 0 then short_below nodes level (link_of nodes link (p / NODE_ENTRIES ^ level))
    (p % NODE_ENTRIES ^ level) else suc level

-- for one page of a tree
abbrev pub page_short : List Node → ℕ → ℕ → ℕ
page_short nodes tree p = short_below nodes ROOT_LEVEL tree p

-- for an end of a range of the pages of a node: the nodes below it on the way there, unless it is where the
-- pages begin or end
abbrev pub cut_at : ℕ → ℕ → ℕ → ℕ
cut_at level at edge = if at == edge then 0 else level - 1

-- an entry of what a link leads to; 0 where that is taken anew: a new node has no entries, and what the entries
-- of a shared one lead to is shared
abbrev pub own_entry : List Node → ℕ → ℕ → ℕ
own_entry nodes link i = if link_short nodes link == 0 then link_of nodes link i else 0

-- a range of pages has some of so many pages, and not all
abbrev pub is_part : ℕ → ℕ → ℕ → Bool
is_part width from to = nat_lt from to && not ((from == 0) && (to == width))

-- for a range of the pages of a link: what it leads to, and the nodes below each entry of which the range has
-- some pages and not all
unfoldable pub range_below : List Node → ℕ → ℕ → ℕ → ℕ → ℕ
range_below nodes zero link from to = 0
range_below nodes (suc level) link from to =
    link_short nodes link
    + sum_by
    (λ i. if is_part (NODE_ENTRIES ^ level) (from - i * NODE_ENTRIES ^ level)
    (min (NODE_ENTRIES ^ level) (to - i * NODE_ENTRIES ^ level))
    then range_below nodes level (own_entry nodes link i) (from - i * NODE_ENTRIES ^ level)
    (min (NODE_ENTRIES ^ level) (to - i * NODE_ENTRIES ^ level))
    else 0)
    (range_with_len 0 NODE_ENTRIES)

-- for a range of the pages of an entry: none where the range has all of them, or none of them
abbrev pub part_below : List Node → ℕ → ℕ → ℕ → ℕ → ℕ
part_below nodes level link from to =
    if is_part (NODE_ENTRIES ^ level) from to then range_below nodes level link from to else 0

-- for one entry of a node, and a range of the pages of the node
abbrev pub entry_short : List Node → ℕ → ℕ → ℕ → ℕ → ℕ → ℕ
entry_short nodes level n from to i =
    part_below nodes (level - 1) (entry_of nodes n i) (from - i * NODE_ENTRIES ^ (level - 1))
    (min (NODE_ENTRIES ^ (level - 1)) (to - i * NODE_ENTRIES ^ (level - 1)))

-- for the entries of a node
abbrev pub entries_short : List Node → ℕ → ℕ → ℕ → ℕ → ℕ
entries_short nodes level n from to = sum_by (entry_short nodes level n from to) (range_with_len 0 NODE_ENTRIES)

-- for a range of pages of a tree: the root, and the nodes that it meets in part, which are absent, or held by
-- others too themselves or with a node above them
abbrev pub range_short : List Node → ℕ → ℕ → ℕ → ℕ
range_short nodes tree from to = range_below nodes ROOT_LEVEL tree from to

-- for an end of a range of the pages of a link: the nodes on the way there that it meets in part and that are
-- absent or held by others too
unfoldable pub edge_below : List Node → ℕ → ℕ → ℕ → ℕ
edge_below nodes zero link p = 0
edge_below nodes (suc level) link p =
    if p == 0 then 0 else link_short nodes link
    + edge_below nodes level (link_of nodes link (p / NODE_ENTRIES ^ level)) (p % NODE_ENTRIES ^ level)

-- for a range of the pages of an open link: what its beginning takes, and what its end takes below
abbrev pub open_cuts : List Node → ℕ → ℕ → ℕ → ℕ → ℕ
open_cuts nodes level link from to =
    edge_below nodes level link from + (if from == 0 then 1 else 0) + cut_at level to (NODE_ENTRIES ^ level)

-- for an end of a range of pages of a tree: the root, and the nodes on the way there that it meets in part
unfoldable pub edge_short : List Node → ℕ → ℕ → ℕ
edge_short nodes tree p = if p == 0 then link_short nodes tree else edge_below nodes ROOT_LEVEL tree p

-- for pages that are taken away: none where all are
abbrev pub clear_short : List Node → ℕ → ℕ → ℕ → ℕ
clear_short nodes tree from to = if (from == 0) && (to == PAGES) then 0 else range_short nodes tree from to
