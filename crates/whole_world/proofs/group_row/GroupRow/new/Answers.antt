use Rattle.std.proofs.Common.{refl}
use Rattle.whole_world.proofs.Rows.{group-new}
use Rattle.whole_world.proofs.group_row.GroupRow.new.Goals as goal

pub returns-clause-group : goal.returns-clause-group
returns-clause-group c = group-new _ c.args.pages 64 c.in_ok-no_pages.ensures.none c.in_ok-no_slots.ensures.empty refl
