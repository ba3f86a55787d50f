use Rattle.std.proofs.Common.{length, ap, ◌∙◌, arith}
use Rattle.std.proofs.Math.ListN.{length-set}
use Rattle.node_pool.specs.Nodes.{Nodes}
use Rattle.node_pool.proofs.PoolLemmas.{seen_count, seen_inside, seen_recount, whole-recount}
use Rattle.node_pool.proofs.pool.NodePool.drop_hold.Goals as goal

pub drop_hold-requires : goal.drop_hold-requires
drop_hold-requires c = rw (seen_count _ _ _ (ap (λ (v : Nodes). v.all) c.self.view_is) c.self.invariant.whole c.args.node.n) c.requires

pub returns-clause-once_less : goal.returns-clause-once_less
returns-clause-once_less c =
    seen_recount _ _ _ (ap (λ (v : Nodes). v.all) c.self.view_is) c.self.invariant.whole c.drop_hold.new.self _ _ (seen_inside _ _ _ (ap (λ (v : Nodes). v.all) c.self.view_is) c.self.invariant.whole _ c.requires)
    (rw (seen_count _ _ _ (ap (λ (v : Nodes). v.all) c.self.view_is) c.self.invariant.whole c.args.node.n) at c.drop_hold.ensures.counts)

pub invariant_of-self : goal.invariant_of-self
invariant_of-self c =
    let size = ap length c.drop_hold.ensures.counts ∙ length-set c.self.inside.counts.counts c.args.node.n _ in
    record {
      whole = whole-recount _ _ _ (ap (λ (v : Nodes). v.all) c.self.view_is) c.self.invariant.whole _ _ _ (seen_inside _ _ _ (ap (λ (v : Nodes). v.all) c.self.view_is) c.self.invariant.whole _ c.requires) c.drop_hold.ensures.counts c.drop_hold.ensures.taken;
      room = omega (arith, size);
    }
