use Rattle.std.proofs.Common.{arith}
use Rattle.ctx_table.proofs.Rows.{map-at, map-gap, rows_at, rows_gap}
use Rattle.ctx_table.proofs.index.Index.get.Goals as goal

pub index-requires : goal.index-requires
index-requires c = let at = rows_at _ c.self.invariant _ _ (rw (← c.self.view_is) at c.in-Ok.ensures.found) in omega (arith, at.within)

pub returns-in-Ok : goal.returns-in-Ok
returns-in-Ok c = rw (← c.self.view_is) (map-at _ c.self.invariant c.args.name c.in-Ok.i c.index.result.now
    (rows_at _ c.self.invariant _ _ (rw (← c.self.view_is) at c.in-Ok.ensures.found)) c.index.ensures)

pub returns-in-Err : goal.returns-in-Err
returns-in-Err c = rw (← c.self.view_is) (map-gap _ c.self.invariant c.args.name _
    (rows_gap _ c.self.invariant _ _ (rw (← c.self.view_is) at c.in-Err.ensures.absent)))
