use Rattle.lwcrun_core.specs.Works.{IsText}
use Rattle.lwcrun_inputs.proofs.Follows.{ended_before, ended_behind}
use Rattle.lwcrun_core.proofs.debugging.debug_run.Goals as goal

pub returns-in-Ok-clause-ended : goal.returns-in-Ok-clause-ended
returns-in-Ok-clause-ended g c = ended_behind IsText _ _ _ _ _ _ _ c.in-Ok.ensures.gathers (c.write_work.ensures _ _ c.debug_text.ensures)

pub returns-in-Ok-clause-fetches : goal.returns-in-Ok-clause-fetches
returns-in-Ok-clause-fetches g c = c.debug_files.ensures.fetches

pub returns-in-Err-clause-ended : goal.returns-in-Err-clause-ended
returns-in-Err-clause-ended g c = ended_before IsText _ _ _ _ _ c.in-Err.ensures.gathers

pub returns-in-Err-clause-fetches : goal.returns-in-Err-clause-fetches
returns-in-Err-clause-fetches g c = c.debug_files.ensures.fetches
