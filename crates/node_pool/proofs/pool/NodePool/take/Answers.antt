use Rattle.std.proofs.Common.{arith, ap}
use Rattle.node_pool.specs.Nodes.{Nodes}
use Rattle.node_pool.proofs.PoolLemmas.{seen_length, seen_count, seen_free, seen_taken}
use Rattle.node_pool.proofs.pool.NodePool.take.Goals as goal

pub returns-in_err-n-clause-full : goal.returns-in_err-n-clause-full
returns-in_err-n-clause-full c =
    rw (c.from_residual.ensures, seen_free _ _ _ (ap (λ (v : Nodes). v.all) c.self.view_is) c.self.invariant.whole) c.in_err-n.ensures.full

pub returns-clause-full : goal.returns-clause-full
returns-clause-full c = rw (seen_free _ _ _ (ap (λ (v : Nodes). v.all) c.self.view_is) c.self.invariant.whole) c.in_ok-n.ensures.full

pub returns-clause-inside : goal.returns-clause-inside
returns-clause-inside c = omega (arith, seen_length _ _ _ (ap (λ (v : Nodes). v.all) c.self.view_is) c.self.invariant.whole, c.in_ok-n.ensures.inside)

pub returns-clause-taken : goal.returns-clause-taken
returns-clause-taken c = seen_taken _ _ _ (ap (λ (v : Nodes). v.all) c.self.view_is) c.self.invariant.whole c.take.new.self _ _ _ _ c.in_ok-n.ensures.held (c.put_next.ensures.padded _ _ c.in_ok-n.ensures.inside)

pub returns-clause-was_free : goal.returns-clause-was_free
returns-clause-was_free c = rw (seen_count _ _ _ (ap (λ (v : Nodes). v.all) c.self.view_is) c.self.invariant.whole c.in_ok-n.n) at c.in_ok-n.ensures.was_free
