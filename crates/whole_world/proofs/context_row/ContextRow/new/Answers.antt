use Rattle.std.proofs.Common.{refl}
use Rattle.whole_world.proofs.Rows.{context-new}
use Rattle.whole_world.proofs.context_row.ContextRow.new.Goals as goal

pub returns-clause-context : goal.returns-clause-context
returns-clause-context c = context-new _ c.args.pages 64 16 c.args.uid c.in_ok-absent_pages.ensures.absent c.in_ok-writable_pages.ensures.writable c.in_ok-empty_slots.ensures.empty refl refl
