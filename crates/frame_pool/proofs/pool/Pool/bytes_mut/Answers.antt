use Rattle.std.proofs.Common.{arith, refl}
use Rattle.std.proofs.Math.ListN.{length-set}
use Rattle.pool_base.proofs.PaddedLemmas.{padded-set}
use Rattle.frame_pool.proofs.PoolLemmas.{seen_inside, seen_bytes, seen_refill}
use Rattle.frame_pool.proofs.pool.Pool.bytes_mut.Goals as goal

pub index_mut-requires : goal.index_mut-requires
index_mut-requires c =
    omega (arith, seen_inside _ _ _ _ c.self.view_is c.self.invariant.whole c.args.frame.n (omega (arith, c.requires)), c.self.inside.bytes.ok, c.self.invariant.whole.filled)

pub returns : goal.returns
returns c =
    let inside = seen_inside _ _ _ _ c.self.view_is c.self.invariant.whole c.args.frame.n (omega (arith, c.requires)) in (
      (refl, λ w. seen_refill _ _ _ _ c.self.view_is c.self.invariant.whole _ _ w inside (padded-set _ _ _ _ _ _ (omega (arith, inside, c.self.invariant.whole.filled)) refl (length-set c.self.inside.bytes.items c.args.frame.n w))),
      record {
        writes_back = tt;
        value = seen_bytes _ _ _ _ c.self.view_is c.self.invariant.whole _ _ inside c.index_mut.ensures.value;
      },
    )
