use Rattle.std.proofs.Common.{◌∙◌, sym}
use Rattle.whole_world.proofs.Tables.{found-at, nothing-at}
use Rattle.whole_world.proofs.table.Table.get.Goals as goal

pub returns-in-Some : goal.returns-in-Some
returns-in-Some g c = sym (found-at c.args.name c.args.self.now.rows.items c.in-Some.i _ (sym c.position.ensures ∙ c.in-Some.is) c.index.ensures)

pub returns-in-None : goal.returns-in-None
returns-in-None g c = sym (nothing-at c.args.name c.args.self.now.rows.items (sym c.position.ensures ∙ c.in-None.is))
