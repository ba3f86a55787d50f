use Rattle.std.proofs.Common.{◌∙◌, sym, ap}
use Rattle.std.specs.Prelude.{is_some}
use Rattle.ctx_table.proofs.Taken.{live, place_exactly}
use Rattle.ctx_table.proofs.table.CtxTable.place.Goals as goal

pub returns-clause-live : goal.returns-clause-live
returns-clause-live g c = rw (← c.self.view_is) (ap is_some c.get.ensures ∙ sym (live _ _ c.self.invariant c.args.name))

pub returns-clause-there : goal.returns-clause-there
returns-clause-there g c = place_exactly _ _ c.self.view_is _ c.self.invariant c.args.name c.get.result (sym c.get.ensures)
