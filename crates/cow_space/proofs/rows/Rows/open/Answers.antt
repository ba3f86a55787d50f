use Rattle.std.proofs.Common.{◌+◌, ◌*◌, length, ap, ◌∙◌, arith, get_or}
use Rattle.std.proofs.lemmas.List.{length-replicate}
use Rattle.node_pool.specs.Nodes.{empty_node}
use Rattle.page_tree.specs.declared.store.TheConstants.{TREE_NODES}
use Rattle.cow_space.specs.declared.rows.TheConstants.{FREE_NODES}
use Rattle.cow_space.specs.RowSeen.{maps, frames_of, free_nodes, HasNoTree}
use Rattle.cow_space.proofs.Trees.{kept-new, maps-new, none-new}
use Rattle.cow_space.proofs.rows.Rows.open.Goals as goal

pub invariant_of-result : goal.invariant_of-result
invariant_of-result c =
    record {
      kept = kept-new (TREE_NODES * c.args.rows + FREE_NODES) c.args.frames c.args.rows _ _ _ _ c.in_ok-store.ensures.tied
          (ap length c.in_ok-store.ensures.nodes ∙ length-replicate (TREE_NODES * c.args.rows + FREE_NODES) (empty_node 0 0))
          c.in_ok-store.ensures.frames c.in_ok-trees.ensures (omega arith);
    }

pub returns-clause-maps : goal.returns-clause-maps
unfolding maps
returns-clause-maps c = maps-new _ _ _ c.args.rows c.in_ok-trees.ensures

pub returns-clause-frames : goal.returns-clause-frames
unfolding frames_of
returns-clause-frames c = ap length c.in_ok-store.ensures.frames ∙ length-replicate c.args.frames _

pub returns-clause-nodes : goal.returns-clause-nodes
unfolding free_nodes
returns-clause-nodes c = c.in_ok-store.ensures.free

pub returns-clause-empty : goal.returns-clause-empty
unfolding HasNoTree
returns-clause-empty c = λ i. ap (λ ts. get_or ts i 0) c.in_ok-trees.ensures ∙ none-new c.args.rows i
