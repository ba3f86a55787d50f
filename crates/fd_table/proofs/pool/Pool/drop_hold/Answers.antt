use Rattle.std.proofs.Common.{length, ap, ◌∙◌, arith}
use Rattle.std.proofs.Math.ListN.{length-set}
use Rattle.fd_table.proofs.PoolLemmas.{seen_count, seen_inside, seen_recount, whole-recount}
use Rattle.fd_table.proofs.pool.Pool.drop_hold.Goals as goal

pub drop_hold-requires : goal.drop_hold-requires
drop_hold-requires c = rw (seen_count _ _ _ c.self.view_is c.self.invariant.whole c.args.object) c.requires

pub returns : goal.returns
returns c =
    seen_recount _ _ _ c.self.view_is c.self.invariant.whole c.drop_hold.new.self _ _ (seen_inside _ _ _ c.self.view_is c.self.invariant.whole _ c.requires)
    (rw (seen_count _ _ _ c.self.view_is c.self.invariant.whole c.args.object) at c.drop_hold.ensures.counts)

pub invariant_of-self : goal.invariant_of-self
invariant_of-self c =
    let size = ap length c.drop_hold.ensures.counts ∙ length-set c.self.inside.counts.counts c.args.object _ in
    record {
      whole = whole-recount _ _ _ c.self.view_is c.self.invariant.whole _ _ _ (seen_inside _ _ _ c.self.view_is c.self.invariant.whole _ c.requires) c.drop_hold.ensures.counts c.drop_hold.ensures.taken;
      room = omega (arith, size);
    }
