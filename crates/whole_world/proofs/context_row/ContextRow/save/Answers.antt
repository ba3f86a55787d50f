use Rattle.std.proofs.Common.{rules}
use Rattle.whole_world.proofs.Rows.{context-saved}
use Rattle.whole_world.proofs.context_row.ContextRow.save.Goals as goal

pub returns-clause-context : goal.returns-clause-context
returns-clause-context c = context-saved c.args.self.now c.args.thread c.args.regs.now (search rules)
