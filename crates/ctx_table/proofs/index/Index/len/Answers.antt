use Rattle.std.proofs.Common.{arith}
use Rattle.ctx_table.proofs.Rows.{map-len}
use Rattle.ctx_table.proofs.index.Index.len.Goals as goal

pub returns : goal.returns
returns c = rw (← c.self.view_is) (omega (arith, c.len.ensures, map-len c.self.inside.rows.items c.self.invariant))
