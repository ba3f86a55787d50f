use Rattle.std.proofs.Common.{◌≡◌, ◌≤◌, List, ℕ, length, refl, arith}
use Rattle.lwcrun_inputs.specs.Inputs.{fitting_image_of, image_of, then_tested, fitted}
use Rattle.lwcrun_inputs.proofs.Readers.{handed_on, image_fits, image_too_large, passed, rejected}
use Rattle.lwcrun_inputs.proofs.inputs.fitting_image_in.Goals as goal

fits_after : (frames : ℕ) (bytes : List ℕ) → fitting_image_of frames bytes ≡ then_tested (image_of bytes) (fitted frames)
unfolding fitting_image_of
fits_after frames bytes = refl

pub returns-in_err-image-clause-reads : goal.returns-in_err-image-clause-reads
returns-in_err-image-clause-reads g c =
    handed_on image_of _ (fitting_image_of _) (fits_after _) _ _ _ _ _ _ c.from_residual.ensures.0 c.from_residual.ensures.1 c.in_err-image.ensures.reads

pub returns-then-frames-pages-clause-reads : goal.returns-then-frames-pages-clause-reads
returns-then-frames-pages-clause-reads g c =
    rejected image_of _ (fitting_image_of _) (fits_after _) _ _ _ _ _ c.in_ok-image.ensures.reads (image_too_large _ _ _ c.len-pages.ensures c.if-frames-pages.true)

pub returns-clause-reads : goal.returns-clause-reads
returns-clause-reads g c =
    let fits : length c.in_ok-image.image.pages ≤ c.args.frames = omega (arith, c.len-pages.ensures) in
    passed image_of _ (fitting_image_of _) (fits_after _) _ _ _ _ _ c.in_ok-image.ensures.reads (image_fits _ _ fits)
