use Rattle.std.proofs.Common.{arith, ◌∙◌}
use Rattle.fd_table.proofs.PoolLemmas.{seen_count, seen_inside}
use Rattle.fd_table.proofs.pool.Pool.count.Goals as goal

pub count-requires : goal.count-requires
count-requires c =
    omega (arith, seen_inside _ _ _ c.self.view_is c.self.invariant.whole _ c.requires, c.self.invariant.whole.within)

pub returns : goal.returns
returns c = c.count.ensures ∙ seen_count _ _ _ c.self.view_is c.self.invariant.whole c.args.object
