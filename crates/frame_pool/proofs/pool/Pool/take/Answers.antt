use Rattle.std.proofs.Common.{arith}
use Rattle.lwc_types.specs.Pages.{zero_bytes, zero_page}
use Rattle.frame_pool.proofs.PoolLemmas.{seen_length, seen_count, seen_free, seen_taken}
use Rattle.frame_pool.proofs.pool.Pool.take.Goals as goal

pub returns-in_err-n-clause-full : goal.returns-in_err-n-clause-full
returns-in_err-n-clause-full c = rw (c.from_residual.ensures, seen_free _ _ _ _ c.self.view_is c.self.invariant.whole) c.in_err-n.ensures.full

pub returns-clause-full : goal.returns-clause-full
returns-clause-full c = rw (seen_free _ _ _ _ c.self.view_is c.self.invariant.whole) c.in_ok-n.ensures.full

pub returns-clause-inside : goal.returns-clause-inside
returns-clause-inside c = omega (arith, seen_length _ _ _ _ c.self.view_is c.self.invariant.whole, c.in_ok-n.ensures.inside)

pub returns-clause-taken : goal.returns-clause-taken
unfolding zero_bytes zero_page
returns-clause-taken c =
    seen_taken _ _ _ _ c.self.view_is c.self.invariant.whole c.take.new.self _ _ _ _ _ _ c.in_ok-n.ensures.held
    (c.put_next.ensures.padded _ _ c.in_ok-n.ensures.inside) (c.put_next-2.ensures.padded _ _ c.in_ok-n.ensures.inside)

pub returns-clause-was_free : goal.returns-clause-was_free
returns-clause-was_free c = rw (seen_count _ _ _ _ c.self.view_is c.self.invariant.whole c.in_ok-n.n) at c.in_ok-n.ensures.was_free
