use Rattle.std.proofs.Common.{arith}
use Rattle.std.proofs.lemmas.Bool.{lt-ltb, ltb-true}
use Rattle.ctx_table.proofs.Taken.{indexed_names, many_places}
use Rattle.ctx_table.proofs.table.CtxTable.has_room.Goals as goal

pub returns : goal.returns
returns g c =
    let names = indexed_names _ _ c.self.view_is _ c.self.invariant in
    let places = many_places _ _ c.self.view_is in (
      (λ less. let fewer = ltb-true _ _ less in omega (arith, fewer, names, places, c.len.ensures, c.len-2.ensures)),
      (λ fewer. lt-ltb _ _ (omega (arith, fewer, names, places, c.len.ensures, c.len-2.ensures))),
    )
