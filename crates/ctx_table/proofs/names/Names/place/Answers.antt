use Rattle.std.proofs.Common.{◌∙◌, sym}
use Rattle.ctx_table.proofs.NameSlots.{read_there, told_within}
use Rattle.ctx_table.proofs.names.Names.place.Goals as goal

pub returns-then-eq-clause-place : goal.returns-then-eq-clause-place
returns-then-eq-clause-place c =
    rw (← c.self.view_is) (read_there _ _ c.self.invariant.indexed c.args.name c.place-hint.result c.at.result (rw (← c.self.view_is) at c.at.ensures) (sym c.eq.ensures ∙ c.if-eq.true))

pub returns-else-eq-clause-within : goal.returns-else-eq-clause-within
returns-else-eq-clause-within c = rw (← c.self.view_is) (told_within _ _ c.self.invariant.indexed c.args.name c.get.result c.get.ensures)
