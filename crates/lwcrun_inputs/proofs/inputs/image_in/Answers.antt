use Rattle.lwcrun_inputs.specs.Inputs.{image_of}
use Rattle.lwcrun_inputs.specs.declared.ending.Rejection.TheVariants as rejections
use Rattle.lwcrun_inputs.proofs.Readers.{fails_so, handed_on, image_limited, or_rejected_err, passed, image_read}
use Rattle.lwcrun_inputs.proofs.inputs.image_in.Goals as goal

pub returns-in_err-bytes-clause-reads : goal.returns-in_err-bytes-clause-reads
returns-in_err-bytes-clause-reads g c =
    handed_on _ _ image_of (image_limited) _ _ _ _ _ _ c.from_residual.ensures.0 c.from_residual.ensures.1 c.in_err-bytes.ensures.reads

pub returns-in_err-read_image-clause-reads : goal.returns-in_err-read_image-clause-reads
unfolding image_of
returns-in_err-read_image-clause-reads g c =
    fails_so _ _ image_of (image_limited) _ _ _ _ rejections.Image _ _ _ _ c.from_residual-in_err-read_image.ensures.0 c.from_residual-in_err-read_image.ensures.1 c.in_ok-bytes.ensures.reads
    (or_rejected_err rejections.Image _) (rw c.deref.ensures.value at c.in_err-read_image.ensures.exact)

pub returns-clause-reads : goal.returns-clause-reads
returns-clause-reads g c =
    passed _ _ image_of (image_limited) _ _ _ _ _ c.in_ok-bytes.ensures.reads (image_read _ _ (rw c.deref.ensures.value at c.in_ok-read_image.ensures.exact))
