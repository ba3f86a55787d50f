use Rattle.std.proofs.Common.{◌∙◌, arith}
use Rattle.fd_table.proofs.PoolLemmas.{seen_inside, seen_slot_at}
use Rattle.fd_table.proofs.pool.Pool.filling.Goals as goal

pub get-requires : goal.get-requires
get-requires c = omega (arith, seen_inside _ _ _ c.self.view_is c.self.invariant.whole _ c.requires, c.self.invariant.whole.filled)

pub returns : goal.returns
returns c =
    c.get.ensures
    ∙ seen_slot_at _ _ _ c.self.view_is c.self.invariant.whole _ (seen_inside _ _ _ c.self.view_is c.self.invariant.whole _ c.requires)
