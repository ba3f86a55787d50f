use Rattle.lwcrun_core.specs.Beside.{script_of}
use Rattle.lwcrun_inputs.specs.declared.ending.Rejection.TheVariants as rejections
use Rattle.lwcrun_inputs.proofs.Readers.{fails_so, handed_on, or_rejected_err, passed}
use Rattle.lwcrun_core.proofs.ReadersBeside.{script_limited, script_read}
use Rattle.lwcrun_core.proofs.beside.script_in.Goals as goal

pub returns-in_err-bytes-clause-reads : goal.returns-in_err-bytes-clause-reads
returns-in_err-bytes-clause-reads g c =
    handed_on _ _ script_of (script_limited _ c.too_long_input-too_long.ensures) _ _ _ _ _ _ c.from_residual.ensures.0 c.from_residual.ensures.1 c.in_err-bytes.ensures.reads

pub returns-in_err-read_script-clause-reads : goal.returns-in_err-read_script-clause-reads
unfolding script_of
returns-in_err-read_script-clause-reads g c =
    fails_so _ _ script_of (script_limited _ c.too_long_input-too_long.ensures) _ _ _ _ rejections.Input _ _ _ _ c.from_residual-in_err-read_script.ensures.0 c.from_residual-in_err-read_script.ensures.1 c.in_ok-bytes.ensures.reads
    (or_rejected_err rejections.Input _) (rw c.deref.ensures.value at c.in_err-read_script.ensures.exact)

pub returns-clause-reads : goal.returns-clause-reads
returns-clause-reads g c =
    passed _ _ script_of (script_limited _ c.too_long_input-too_long.ensures) _ _ _ _ _ c.in_ok-bytes.ensures.reads (script_read _ _ (rw c.deref.ensures.value at c.in_ok-read_script.ensures.exact))
