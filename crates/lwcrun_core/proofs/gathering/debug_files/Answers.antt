use Rattle.std.proofs.Common.{refl}
use Rattle.lwcrun_core.specs.Works.{IsText, plan_by}
use Rattle.lwcrun_inputs.proofs.Fetches.{nothing_fetched}
use Rattle.lwcrun_inputs.proofs.Follows.{fetches_on, fetches_stop, gathers_all, gathers_none, gathers_on, gathers_stop}
use Rattle.lwcrun_core.proofs.gathering.debug_files.Goals as goal

pub returns-in_err-image-clause-gathers : goal.returns-in_err-image-clause-gathers
unfolding plan_by
returns-in_err-image-clause-gathers g c = gathers_none _ _ _ _ _ _ c.from_residual.ensures.0 c.from_residual.ensures.1 (gathers_stop IsText _ _ _ _ _ _ _ c.in_err-image.ensures.reads)

pub returns-in_err-image-clause-fetches : goal.returns-in_err-image-clause-fetches
unfolding plan_by
returns-in_err-image-clause-fetches g c = fetches_stop _ _ _ _ _ _ c.fitting_image_in.ensures.fetches

pub returns-in_err-schedule-clause-gathers : goal.returns-in_err-schedule-clause-gathers
unfolding plan_by
returns-in_err-schedule-clause-gathers g c = gathers_none _ _ _ _ _ _ c.from_residual-in_err-schedule.ensures.0 c.from_residual-in_err-schedule.ensures.1 (gathers_on IsText _ _ _ _ _ _ _ _ _ c.in_ok-image.ensures.reads c.fitting_image_in.ensures.same (gathers_stop IsText _ _ _ _ _ _ _ (rw c.thread_count-threads.ensures at c.in_err-schedule.ensures.reads)))

pub returns-in_err-schedule-clause-fetches : goal.returns-in_err-schedule-clause-fetches
unfolding plan_by
returns-in_err-schedule-clause-fetches g c = fetches_on IsText _ _ _ _ _ _ _ _ c.in_ok-image.ensures.reads c.fitting_image_in.ensures.same c.in_ok-image.ensures.whole (fetches_stop _ _ _ _ _ _ c.schedule_in.ensures.fetches)

pub returns-in_err-script-clause-gathers : goal.returns-in_err-script-clause-gathers
unfolding plan_by
returns-in_err-script-clause-gathers g c = gathers_none _ _ _ _ _ _ c.from_residual-in_err-script.ensures.0 c.from_residual-in_err-script.ensures.1 (gathers_on IsText _ _ _ _ _ _ _ _ _ c.in_ok-image.ensures.reads c.fitting_image_in.ensures.same (gathers_on IsText _ _ _ _ _ _ _ _ _ (rw c.thread_count-threads.ensures at c.in_ok-schedule.ensures.reads) c.schedule_in.ensures.same (gathers_stop IsText _ _ _ _ _ _ _ c.in_err-script.ensures.reads)))

pub returns-in_err-script-clause-fetches : goal.returns-in_err-script-clause-fetches
unfolding plan_by
returns-in_err-script-clause-fetches g c = fetches_on IsText _ _ _ _ _ _ _ _ c.in_ok-image.ensures.reads c.fitting_image_in.ensures.same c.in_ok-image.ensures.whole (fetches_on IsText _ _ _ _ _ _ _ _ (rw c.thread_count-threads.ensures at c.in_ok-schedule.ensures.reads) c.schedule_in.ensures.same c.in_ok-schedule.ensures.whole (fetches_stop _ _ _ _ _ _ c.script_in.ensures.fetches))

pub returns-clause-gathers : goal.returns-clause-gathers
unfolding plan_by
returns-clause-gathers g c = gathers_on IsText _ _ _ _ _ _ _ _ _ c.in_ok-image.ensures.reads c.fitting_image_in.ensures.same (gathers_on IsText _ _ _ _ _ _ _ _ _ (rw c.thread_count-threads.ensures at c.in_ok-schedule.ensures.reads) c.schedule_in.ensures.same (gathers_on IsText _ _ _ _ _ _ _ _ _ c.in_ok-script.ensures.reads c.script_in.ensures.same (gathers_all _ _ _)))

pub returns-clause-fetches : goal.returns-clause-fetches
unfolding plan_by
returns-clause-fetches g c = fetches_on IsText _ _ _ _ _ _ _ _ c.in_ok-image.ensures.reads c.fitting_image_in.ensures.same c.in_ok-image.ensures.whole (fetches_on IsText _ _ _ _ _ _ _ _ (rw c.thread_count-threads.ensures at c.in_ok-schedule.ensures.reads) c.schedule_in.ensures.same c.in_ok-schedule.ensures.whole (fetches_on IsText _ _ _ _ _ _ _ _ c.in_ok-script.ensures.reads c.script_in.ensures.same c.in_ok-script.ensures.whole (nothing_fetched _ refl)))
