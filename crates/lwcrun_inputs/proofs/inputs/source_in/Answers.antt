use Rattle.lwcrun_inputs.specs.Inputs.{source_of}
use Rattle.lwcrun_inputs.specs.declared.ending.Rejection.TheVariants as rejections
use Rattle.lwcrun_inputs.proofs.Readers.{fails_so, handed_on, source_limited, or_rejected_err, passed, source_read}
use Rattle.lwcrun_inputs.proofs.inputs.source_in.Goals as goal

pub returns-in_err-bytes-clause-reads : goal.returns-in_err-bytes-clause-reads
returns-in_err-bytes-clause-reads g c =
    handed_on _ _ source_of (source_limited) _ _ _ _ _ _ c.from_residual.ensures.0 c.from_residual.ensures.1 c.in_err-bytes.ensures.reads

pub returns-in_err-assemble-clause-reads : goal.returns-in_err-assemble-clause-reads
unfolding source_of
returns-in_err-assemble-clause-reads g c =
    fails_so _ _ source_of (source_limited) _ _ _ _ rejections.Source _ _ _ _ c.from_residual-in_err-assemble.ensures.0 c.from_residual-in_err-assemble.ensures.1 c.in_ok-bytes.ensures.reads
    (or_rejected_err rejections.Source _) (rw c.deref.ensures.value at c.in_err-assemble.ensures.exact)

pub returns-clause-reads : goal.returns-clause-reads
returns-clause-reads g c =
    passed _ _ source_of (source_limited) _ _ _ _ _ c.in_ok-bytes.ensures.reads (source_read _ _ (rw c.deref.ensures.value at c.in_ok-assemble.ensures.exact))
