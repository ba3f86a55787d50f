use Rattle.whole_world.proofs.Rows.{context-right}
use Rattle.whole_world.proofs.context_row.ContextRow.set_right.Goals as goal

pub returns-clause-context : goal.returns-clause-context
returns-clause-context c = context-right c.args.self.now c.args.page c.args.right c.requires
