use Rattle.std.proofs.Common.{arith, ap}
use Rattle.node_pool.specs.Nodes.{Nodes}
use Rattle.node_pool.proofs.PoolLemmas.{seen_inside, seen_node_at}
use Rattle.node_pool.proofs.pool.NodePool.entries.Goals as goal

pub index-requires : goal.index-requires
index-requires c =
    omega (arith, seen_inside _ _ _ (ap (λ (v : Nodes). v.all) c.self.view_is) c.self.invariant.whole _ c.requires, c.self.inside.contents.ok, c.self.invariant.whole.filled)

pub returns : goal.returns
returns c =
    ap (λ node. node.entries)
    (seen_node_at _ _ _ (ap (λ (v : Nodes). v.all) c.self.view_is) c.self.invariant.whole _ _ (seen_inside _ _ _ (ap (λ (v : Nodes). v.all) c.self.view_is) c.self.invariant.whole _ c.requires) c.index.ensures)
