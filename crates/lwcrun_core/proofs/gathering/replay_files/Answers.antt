use Rattle.kernel_core.specs.Start.{inputs_of}
use Rattle.lwcrun_core.specs.Works.{IsText, plan_by}
use Rattle.lwcrun_inputs.proofs.Follows.{fetches_on, fetches_stop, gathers_none, gathers_on, gathers_stop}
use Rattle.lwcrun_core.proofs.gathering.replay_files.Goals as goal

pub returns-in_err-image-clause-gathers : goal.returns-in_err-image-clause-gathers
unfolding plan_by
returns-in_err-image-clause-gathers g c = λ work. gathers_none _ _ _ _ _ _ c.from_residual.ensures.0 c.from_residual.ensures.1 (gathers_stop IsText _ _ _ _ _ _ _ c.in_err-image.ensures.reads)

pub returns-in_err-image-clause-fetches : goal.returns-in_err-image-clause-fetches
unfolding plan_by
returns-in_err-image-clause-fetches g c = λ work. fetches_stop _ _ _ _ _ _ c.fitting_image_in.ensures.fetches

pub returns-in_err-schedule-clause-gathers : goal.returns-in_err-schedule-clause-gathers
unfolding plan_by
returns-in_err-schedule-clause-gathers g c =
    λ work. gathers_none _ _ _ _ _ _ c.from_residual-in_err-schedule.ensures.0 c.from_residual-in_err-schedule.ensures.1
    (gathers_on IsText _ _ _ _ _ _ _ _ _ c.in_ok-image.ensures.reads c.fitting_image_in.ensures.same (gathers_stop IsText _ _ _ _ _ _ _ (rw c.thread_count-threads.ensures at c.in_err-schedule.ensures.reads)))

pub returns-in_err-schedule-clause-fetches : goal.returns-in_err-schedule-clause-fetches
unfolding plan_by
returns-in_err-schedule-clause-fetches g c =
    λ work. fetches_on IsText _ _ _ _ _ _ _ _ c.in_ok-image.ensures.reads c.fitting_image_in.ensures.same c.in_ok-image.ensures.whole (fetches_stop _ _ _ _ _ _ c.schedule_in.ensures.fetches)

pub returns-in_err-requests-clause-gathers : goal.returns-in_err-requests-clause-gathers
unfolding plan_by
returns-in_err-requests-clause-gathers g c =
    λ work. gathers_none _ _ _ _ _ _ c.from_residual-in_err-requests.ensures.0 c.from_residual-in_err-requests.ensures.1
    (gathers_on IsText _ _ _ _ _ _ _ _ _ c.in_ok-image.ensures.reads c.fitting_image_in.ensures.same (gathers_on IsText _ _ _ _ _ _ _ _ _ (rw c.thread_count-threads.ensures at c.in_ok-schedule.ensures.reads) c.schedule_in.ensures.same (c.in_err-requests.ensures.gathers c.args.settings.now (λ p. work (inputs_of p.image p.requests c.args.settings.now) p.steps) c.in_ok-image.image c.in_ok-schedule.schedule)))

pub returns-in_err-requests-clause-fetches : goal.returns-in_err-requests-clause-fetches
unfolding plan_by
returns-in_err-requests-clause-fetches g c =
    λ work. fetches_on IsText _ _ _ _ _ _ _ _ c.in_ok-image.ensures.reads c.fitting_image_in.ensures.same c.in_ok-image.ensures.whole (fetches_on IsText _ _ _ _ _ _ _ _ (rw c.thread_count-threads.ensures at c.in_ok-schedule.ensures.reads) c.schedule_in.ensures.same c.in_ok-schedule.ensures.whole (c.named_requests.ensures.fetches c.args.settings.now (λ p. work (inputs_of p.image p.requests c.args.settings.now) p.steps) c.in_ok-image.image c.in_ok-schedule.schedule))

pub returns-clause-gathers : goal.returns-clause-gathers
unfolding plan_by
returns-clause-gathers g c =
    λ work. gathers_on IsText _ _ _ _ _ _ _ _ _ c.in_ok-image.ensures.reads c.fitting_image_in.ensures.same (gathers_on IsText _ _ _ _ _ _ _ _ _ (rw c.thread_count-threads.ensures at c.in_ok-schedule.ensures.reads) c.schedule_in.ensures.same (c.in_ok-requests.ensures.gathers c.args.settings.now (λ p. work (inputs_of p.image p.requests c.args.settings.now) p.steps) c.in_ok-image.image c.in_ok-schedule.schedule))

pub returns-clause-fetches : goal.returns-clause-fetches
unfolding plan_by
returns-clause-fetches g c =
    λ work. fetches_on IsText _ _ _ _ _ _ _ _ c.in_ok-image.ensures.reads c.fitting_image_in.ensures.same c.in_ok-image.ensures.whole (fetches_on IsText _ _ _ _ _ _ _ _ (rw c.thread_count-threads.ensures at c.in_ok-schedule.ensures.reads) c.schedule_in.ensures.same c.in_ok-schedule.ensures.whole (c.named_requests.ensures.fetches c.args.settings.now (λ p. work (inputs_of p.image p.requests c.args.settings.now) p.steps) c.in_ok-image.image c.in_ok-schedule.schedule))
