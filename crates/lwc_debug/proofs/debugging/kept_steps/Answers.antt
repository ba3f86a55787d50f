use Rattle.std.proofs.Common.{◌∙◌}
use Rattle.lwc_debug.proofs.Legal.{keeps_threads}
use Rattle.lwc_debug.proofs.debugging.kept_steps.Goals as goal

pub returns-clause-threads : goal.returns-clause-threads
returns-clause-threads g c =
    keeps_threads _ _ _ (c.in_ok-from_slice.ensures.items ∙ c.schedule.ensures.steps ∙ c.in_ok-make_steps.ensures.steps) _ c.requires.threads
