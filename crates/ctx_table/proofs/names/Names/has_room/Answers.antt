use Rattle.std.proofs.Common.{arith}
use Rattle.std.proofs.lemmas.Bool.{lt-ltb, ltb-true}
use Rattle.ctx_table.proofs.names.Names.has_room.Goals as goal

pub returns : goal.returns
returns c =
    rw (← c.self.view_is) (
      (λ less. let fewer = ltb-true _ _ less in omega (arith, fewer, c.len.ensures, c.len-2.ensures)),
      (λ fewer. lt-ltb _ _ (omega (arith, fewer, c.len.ensures, c.len-2.ensures))),
    )
