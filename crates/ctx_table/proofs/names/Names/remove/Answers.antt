use Rattle.std.proofs.Common.{arith}
use Rattle.ctx_table.proofs.NameSlots.{indexed-remove, placed, taken_less}
use Rattle.ctx_table.proofs.names.Names.remove.Goals as goal

pub invariant_of-self : goal.invariant_of-self
invariant_of-self c =
    record {
      indexed = indexed-remove _ _ _ c.self.invariant.indexed c.args.name c.place_of-place.result c.remove.ensures (rw (← c.self.view_is) at c.place_of-place.ensures.there);
      taken = rw c.min-self-inside.ensures (taken_less _ _ _ (omega (arith, c.self.invariant.taken)) (omega arith));
    }

pub returns-clause-placed : goal.returns-clause-placed
returns-clause-placed c =
    placed _ _ (indexed-remove _ _ _ c.self.invariant.indexed c.args.name c.place_of-place.result c.remove.ensures (rw (← c.self.view_is) at c.place_of-place.ensures.there))
