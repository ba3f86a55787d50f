use Rattle.whole_world.proofs.Moves.{values_given, values_taken}
use Rattle.whole_world.proofs.context_row.ContextRow.move_values.Goals as goal

pub returns-clause-context : goal.returns-clause-context
returns-clause-context c =
    values_given c.args.pages _ c.requires.within _ _ _ _ _ c.mode_or_copy.ensures c.move_pages.ensures.context c.move_slots.ensures.context _ c.move_key.ensures.context

pub returns-clause-group : goal.returns-clause-group
returns-clause-group c =
    values_taken c.args.pages _ c.requires.within _ _ _ _ _ c.mode_or_copy.ensures c.move_pages.ensures.context c.move_slots.ensures.context
    _ _ _ _ c.requires.empty c.move_pages.ensures.group c.move_slots.ensures.group c.move_key.ensures.group
