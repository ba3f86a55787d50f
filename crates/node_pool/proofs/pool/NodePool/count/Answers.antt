use Rattle.std.proofs.Common.{arith, ◌∙◌, ap}
use Rattle.node_pool.specs.Nodes.{Nodes}
use Rattle.node_pool.proofs.PoolLemmas.{seen_length, seen_count}
use Rattle.node_pool.proofs.pool.NodePool.count.Goals as goal

pub count-requires : goal.count-requires
count-requires c = omega (arith, seen_length _ _ _ (ap (λ (v : Nodes). v.all) c.self.view_is) c.self.invariant.whole, c.requires)

pub returns : goal.returns
returns c = c.count.ensures ∙ seen_count _ _ _ (ap (λ (v : Nodes). v.all) c.self.view_is) c.self.invariant.whole c.args.node.n
