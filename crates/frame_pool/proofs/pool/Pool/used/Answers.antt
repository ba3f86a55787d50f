use Rattle.std.proofs.Common.{arith, ◌∙◌}
use Rattle.frame_pool.proofs.PoolLemmas.{seen_length, seen_free, seen_used}
use Rattle.frame_pool.proofs.pool.Pool.used.Goals as goal

pub returns-clause-used : goal.returns-clause-used
returns-clause-used c = c.used.ensures.held ∙ seen_used _ _ _ _ c.self.view_is c.self.invariant.whole

pub returns-clause-all : goal.returns-clause-all
returns-clause-all c =
    omega (arith, c.used.ensures.all, seen_length _ _ _ _ c.self.view_is c.self.invariant.whole, seen_free _ _ _ _ c.self.view_is c.self.invariant.whole)
