use Rattle.std.proofs.Common.{arith, ap}
use Rattle.node_pool.specs.Nodes.{Nodes}
use Rattle.node_pool.proofs.PoolLemmas.{seen_inside, seen_enter}
use Rattle.node_pool.proofs.pool.NodePool.set_entry.Goals as goal

pub index_mut-requires : goal.index_mut-requires
index_mut-requires c =
    omega (arith, seen_inside _ _ _ (ap (λ (v : Nodes). v.all) c.self.view_is) c.self.invariant.whole c.args.node.n (omega (arith, c.requires.once)), c.self.inside.contents.ok, c.self.invariant.whole.filled)

pub returns-clause-entered : goal.returns-clause-entered
returns-clause-entered c =
    seen_enter _ _ _ (ap (λ (v : Nodes). v.all) c.self.view_is) c.self.invariant.whole _ _ _ _
    (seen_inside _ _ _ (ap (λ (v : Nodes). v.all) c.self.view_is) c.self.invariant.whole c.args.node.n (omega (arith, c.requires.once))) c.index_mut.ensures.value
