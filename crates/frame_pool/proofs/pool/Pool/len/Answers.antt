use Rattle.std.proofs.Common.{sym, ◌∙◌}
use Rattle.frame_pool.proofs.PoolLemmas.{seen_length}
use Rattle.frame_pool.proofs.pool.Pool.len.Goals as goal

pub returns : goal.returns
returns c = c.len.ensures ∙ sym (seen_length _ _ _ _ c.self.view_is c.self.invariant.whole)
