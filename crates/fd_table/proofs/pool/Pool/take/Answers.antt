use Rattle.std.proofs.Common.{arith}
use Rattle.fd_table.proofs.PoolLemmas.{seen_length, seen_count, seen_free, seen_taken}
use Rattle.fd_table.proofs.pool.Pool.take.Goals as goal

pub returns-in_err-o-clause-full : goal.returns-in_err-o-clause-full
returns-in_err-o-clause-full c =
    rw (c.from_residual.ensures, seen_free _ _ _ c.self.view_is c.self.invariant.whole) c.in_err-o.ensures.full

pub returns-clause-full : goal.returns-clause-full
returns-clause-full c = rw (seen_free _ _ _ c.self.view_is c.self.invariant.whole) c.in_ok-o.ensures.full

pub returns-clause-inside : goal.returns-clause-inside
returns-clause-inside c = omega (arith, seen_length _ _ _ c.self.view_is c.self.invariant.whole, c.in_ok-o.ensures.inside)

pub returns-clause-taken : goal.returns-clause-taken
returns-clause-taken c = seen_taken _ _ _ c.self.view_is c.self.invariant.whole c.take.new.self _ _ _ _ c.in_ok-o.ensures.held (c.put_next.ensures.padded _ _ c.in_ok-o.ensures.inside)

pub returns-clause-was_free : goal.returns-clause-was_free
returns-clause-was_free c = rw (seen_count _ _ _ c.self.view_is c.self.invariant.whole c.in_ok-o.o) at c.in_ok-o.ensures.was_free
