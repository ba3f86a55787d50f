use Rattle.std.proofs.Common.{arith, ◌∙◌}
use Rattle.frame_pool.proofs.PoolLemmas.{seen_length, seen_count}
use Rattle.frame_pool.proofs.pool.Pool.count.Goals as goal

pub count-requires : goal.count-requires
count-requires c = omega (arith, seen_length _ _ _ _ c.self.view_is c.self.invariant.whole, c.requires)

pub returns : goal.returns
returns c = c.count.ensures ∙ seen_count _ _ _ _ c.self.view_is c.self.invariant.whole c.args.frame.n
