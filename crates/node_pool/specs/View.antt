-- What a pool keeps, seen as the list of its nodes.
use Rattle.std.specs.Prelude.{◌≡◌, ℕ, ◌≤◌, List, length, replicate, slice_index}
use Rattle.pool_base.specs.HoldCounts.{Places}
use Rattle.pool_base.specs.Padded.{padded}
use Rattle.pool_base.specs.Paired.{paired}
use Rattle.node_pool.specs.declared.pool.NodeContent.{NodeContent}
use Rattle.node_pool.specs.declared.pool.TheConstants.{NODE_ENTRIES}
use Rattle.node_pool.specs.Nodes.{Node}

-- a node, of its count and its content
abbrev pub seen_node : ℕ → NodeContent → Node
seen_node count content = record { count = count; level = content.level; entries = content.entries }

-- the content of a node that was never taken
abbrev pub blank_content : NodeContent
blank_content = record { level = 0; entries = replicate NODE_ENTRIES 0 }

-- the nodes, of their counts and contents
abbrev pub seen_nodes : Places → List NodeContent → List Node
seen_nodes places contents = paired seen_node places.counts (padded (length places.counts) blank_content contents)

-- each node that was taken has a content, and no other node is held
pub record IsWhole (places : Places) (contents : List NodeContent) : Type 0 where
  pub filled : length contents ≡ places.taken
  pub within : places.taken ≤ length places.counts
  pub fresh : (n : ℕ) → places.taken ≤ n → slice_index places.counts n ≡ 0
