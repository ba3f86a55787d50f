use Rattle.std.proofs.Common.{arith}
use Rattle.frame_pool.proofs.PoolLemmas.{seen_inside, seen_bytes}
use Rattle.frame_pool.proofs.pool.Pool.bytes.Goals as goal

pub index-requires : goal.index-requires
index-requires c =
    omega (arith, seen_inside _ _ _ _ c.self.view_is c.self.invariant.whole c.args.frame.n c.requires, c.self.inside.bytes.ok, c.self.invariant.whole.filled)

pub returns-clause-value : goal.returns-clause-value
returns-clause-value c =
    seen_bytes _ _ _ _ c.self.view_is c.self.invariant.whole _ _ (seen_inside _ _ _ _ c.self.view_is c.self.invariant.whole _ c.requires) c.index.ensures
