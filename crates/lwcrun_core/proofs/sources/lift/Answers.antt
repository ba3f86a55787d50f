use Rattle.std.proofs.Common.{◌≡◌, refl, subst}
use Rattle.std.specs.Prelude.{IfOk}
use Rattle.guest_image.specs.Spelling.{spelling}
use Rattle.guest_image.specs.declared.image.Image.{Image}
use Rattle.lwcrun_core.specs.Works.{IsText, plan_by}
use Rattle.lwcrun_inputs.proofs.Fetches.{nothing_fetched}
use Rattle.lwcrun_inputs.proofs.Follows.{fetches_on, fetches_stop, reads_on, stops_reading}
use Rattle.lwcrun_core.proofs.sources.lift.Goals as goal

pub returns-in-Ok-clause-ended : goal.returns-in-Ok-clause-ended
unfolding plan_by
returns-in-Ok-clause-ended g c =
    reads_on IsText _ _ _ _ _ _ _ _ _ _ _ c.in-Ok.ensures.reads c.image_in.ensures.same
    (c.write_work.ensures _ _ (subst (λ (x : Image). IfOk c.write_image.result (λ bytes. bytes.items ≡ spelling x)) c.lift.ensures c.write_image.ensures))

pub returns-in-Ok-clause-fetches : goal.returns-in-Ok-clause-fetches
unfolding plan_by
returns-in-Ok-clause-fetches g c =
    fetches_on IsText _ _ _ _ _ _ _ _ c.in-Ok.ensures.reads c.image_in.ensures.same c.in-Ok.ensures.whole (nothing_fetched _ refl)

pub returns-in-Err-clause-ended : goal.returns-in-Err-clause-ended
unfolding plan_by
returns-in-Err-clause-ended g c = stops_reading IsText _ _ _ _ _ _ c.in-Err.ensures.reads refl

pub returns-in-Err-clause-fetches : goal.returns-in-Err-clause-fetches
unfolding plan_by
returns-in-Err-clause-fetches g c = fetches_stop _ _ _ _ _ _ c.image_in.ensures.fetches
