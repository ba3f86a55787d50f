use Rattle.lwcrun_inputs.specs.Inputs.{requests_of}
use Rattle.lwcrun_inputs.specs.declared.ending.Rejection.TheVariants as rejections
use Rattle.lwcrun_inputs.proofs.Readers.{fails_so, handed_on, requests_limited, or_rejected_err, passed, requests_read}
use Rattle.lwcrun_inputs.proofs.inputs.requests_in.Goals as goal

pub returns-in_err-bytes-clause-reads : goal.returns-in_err-bytes-clause-reads
returns-in_err-bytes-clause-reads g c =
    handed_on _ _ requests_of (requests_limited _ c.too_long_input-too_long.ensures) _ _ _ _ _ _ c.from_residual.ensures.0 c.from_residual.ensures.1 c.in_err-bytes.ensures.reads

pub returns-in_err-read_requests-clause-reads : goal.returns-in_err-read_requests-clause-reads
unfolding requests_of
returns-in_err-read_requests-clause-reads g c =
    fails_so _ _ requests_of (requests_limited _ c.too_long_input-too_long.ensures) _ _ _ _ rejections.Input _ _ _ _ c.from_residual-in_err-read_requests.ensures.0 c.from_residual-in_err-read_requests.ensures.1 c.in_ok-bytes.ensures.reads
    (or_rejected_err rejections.Input _) (rw c.deref.ensures.value at c.in_err-read_requests.ensures.exact)

pub returns-clause-reads : goal.returns-clause-reads
returns-clause-reads g c =
    passed _ _ requests_of (requests_limited _ c.too_long_input-too_long.ensures) _ _ _ _ _ c.in_ok-bytes.ensures.reads (requests_read _ _ (rw c.deref.ensures.value at c.in_ok-read_requests.ensures.exact))
