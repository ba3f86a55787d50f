use Rattle.std.proofs.Common.{arith}
use Rattle.frame_pool.proofs.PoolLemmas.{seen_stamp, seen_no_stamp}
use Rattle.frame_pool.proofs.pool.Pool.stamp.Goals as goal

pub returns-then-n-len : goal.returns-then-n-len
returns-then-n-len c =
    seen_stamp _ _ _ _ c.self.view_is c.self.invariant.whole _ _ (omega (arith, c.if-n-len.true, c.self.invariant.whole.stamped, c.self.inside.stamps.ok)) c.index.ensures

pub returns-else-n-len : goal.returns-else-n-len
returns-else-n-len c =
    seen_no_stamp _ _ _ _ c.self.view_is c.self.invariant.whole _ (omega (arith, c.if-n-len.false, c.self.inside.stamps.ok)) c.requires
