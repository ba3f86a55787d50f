-- A pool of nodes as all of its nodes, and the steps that it made.
use Rattle.std.specs.Prelude.{ℕ, ◌+◌, ◌-◌, ◌^◌, ◌==◌, min, List, [], count_by, replicate}
use Rattle.std.specs.Prelude.{slice_index, slice_index_or, slice_set}
use Rattle.node_pool.specs.declared.pool.TheConstants.{NODE_ENTRIES}

-- a node: how often it is held, its level, and its entries
pub record Node : Type 0 where
  pub count : ℕ
  pub level : ℕ
  pub entries : List ℕ

-- the nodes of a pool, and how many node steps it made
pub record Nodes : Type 0 where
  pub all : List Node
  pub steps : ℕ

-- the steps that are counted: at this number the count stays
abbrev pub MOST_COUNTED : ℕ
MOST_COUNTED = 2 ^ 64 - 1

-- one step more, below that number
abbrev pub next_step : ℕ → ℕ
next_step steps = min (steps + 1) MOST_COUNTED

-- a node whose entries are all 0
abbrev pub empty_node : ℕ → ℕ → Node
empty_node count level = record { count = count; level = level; entries = replicate NODE_ENTRIES 0 }

-- what is read past the end of a pool
abbrev pub no_node : Node
no_node = record { count = 0; level = 0; entries = [] }

-- the node at a place
abbrev pub node_at : List Node → ℕ → Node
node_at nodes n = slice_index_or nodes n no_node

-- how often a node is held
abbrev pub count_of : List Node → ℕ → ℕ
count_of nodes n = (node_at nodes n).count

-- the level of a node
abbrev pub level_of : List Node → ℕ → ℕ
level_of nodes n = (node_at nodes n).level

-- one entry of a node
abbrev pub entry_of : List Node → ℕ → ℕ → ℕ
entry_of nodes n i = slice_index (node_at nodes n).entries i

-- a node is held so often
abbrev pub counted : Node → ℕ → Node
counted node c = record node { count = c }

-- the nodes, where one is held so often
abbrev pub recount : List Node → ℕ → ℕ → List Node
recount nodes n c = slice_set nodes n (counted (node_at nodes n) c)

-- a node with another value at one entry
abbrev pub entered : Node → ℕ → ℕ → Node
entered node i value = record node { entries = slice_set node.entries i value }

-- the nodes, where one has another value at one entry
abbrev pub enter : List Node → ℕ → ℕ → ℕ → List Node
enter nodes n i value = slice_set nodes n (entered (node_at nodes n) i value)

-- how many nodes are free
abbrev pub free_of : List Node → ℕ
free_of nodes = count_by (λ node. node.count == 0) nodes
