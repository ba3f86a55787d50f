use Rattle.std.proofs.Common.{◌∙◌, sym, ap}
use Rattle.std.specs.Prelude.{is_some}
use Rattle.std.proofs.lemmas.Bool.{both_ways}
use Rattle.ctx_table.proofs.Taken.{fits, live, place_name}
use Rattle.ctx_table.proofs.table.CtxTable.place_of.Goals as goal

pub unreachable-requires : goal.unreachable-requires
unreachable-requires g c =
    both_ways _ (ap is_some (sym c.get.ensures ∙ c.in-None.is)) (sym (live _ _ c.self.invariant c.args.name) ∙ (rw (← c.self.view_is) at c.requires))

pub returns-clause-there : goal.returns-clause-there
returns-clause-there g c = place_name _ _ c.self.view_is c.in-Some.place ∙ c.self.invariant.there c.args.name c.in-Some.place (sym c.get.ensures ∙ c.in-Some.is)

pub returns-clause-within : goal.returns-clause-within
returns-clause-within g c = fits _ _ c.self.view_is c.in-Some.place (c.self.invariant.within c.args.name c.in-Some.place (sym c.get.ensures ∙ c.in-Some.is))
