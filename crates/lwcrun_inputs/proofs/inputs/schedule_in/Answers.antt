use Rattle.lwcrun_inputs.specs.Inputs.{schedule_of}
use Rattle.lwcrun_inputs.specs.declared.ending.Rejection.TheVariants as rejections
use Rattle.lwcrun_inputs.proofs.Readers.{fails_so, handed_on, schedule_limited, or_rejected_err, passed, schedule_read}
use Rattle.lwcrun_inputs.proofs.inputs.schedule_in.Goals as goal

pub returns-in_err-bytes-clause-reads : goal.returns-in_err-bytes-clause-reads
returns-in_err-bytes-clause-reads g c =
    handed_on _ _ (schedule_of _ _) (schedule_limited _ _ _ c.too_long_input-too_long.ensures) _ _ _ _ _ _ c.from_residual.ensures.0 c.from_residual.ensures.1 c.in_err-bytes.ensures.reads

pub returns-in_err-read_schedule_within-clause-reads : goal.returns-in_err-read_schedule_within-clause-reads
unfolding schedule_of
returns-in_err-read_schedule_within-clause-reads g c =
    fails_so _ _ (schedule_of _ _) (schedule_limited _ _ _ c.too_long_input-too_long.ensures) _ _ _ _ rejections.Input _ _ _ _ c.from_residual-in_err-read_schedule_within.ensures.0 c.from_residual-in_err-read_schedule_within.ensures.1 c.in_ok-bytes.ensures.reads
    (or_rejected_err rejections.Input _) (rw c.deref.ensures.value at c.in_err-read_schedule_within.ensures.exact)

pub returns-clause-reads : goal.returns-clause-reads
returns-clause-reads g c =
    passed _ _ (schedule_of _ _) (schedule_limited _ _ _ c.too_long_input-too_long.ensures) _ _ _ _ _ c.in_ok-bytes.ensures.reads (schedule_read _ _ _ _ (rw c.deref.ensures.value at c.in_ok-read_schedule_within.ensures.exact))
