use Rattle.std.proofs.Common.{refl}
use Rattle.lwcrun_core.specs.Works.{IsText, plan_by}
use Rattle.lwcrun_inputs.proofs.Fetches.{nothing_fetched}
use Rattle.lwcrun_inputs.proofs.Follows.{fetches_on, fetches_stop, reads_on, stops_reading}
use Rattle.lwcrun_core.proofs.sources.dis.Goals as goal

pub returns-in-Ok-clause-ended : goal.returns-in-Ok-clause-ended
unfolding plan_by
returns-in-Ok-clause-ended g c =
    reads_on IsText _ _ _ _ _ _ _ _ _ _ _ c.in-Ok.ensures.reads c.image_in.ensures.same (c.write_work.ensures _ _ c.disassemble.ensures.source)

pub returns-in-Ok-clause-fetches : goal.returns-in-Ok-clause-fetches
unfolding plan_by
returns-in-Ok-clause-fetches g c =
    fetches_on IsText _ _ _ _ _ _ _ _ c.in-Ok.ensures.reads c.image_in.ensures.same c.in-Ok.ensures.whole (nothing_fetched _ refl)

pub returns-in-Err-clause-ended : goal.returns-in-Err-clause-ended
unfolding plan_by
returns-in-Err-clause-ended g c = stops_reading IsText _ _ _ _ _ _ c.in-Err.ensures.reads refl

pub returns-in-Err-clause-fetches : goal.returns-in-Err-clause-fetches
unfolding plan_by
returns-in-Err-clause-fetches g c = fetches_stop _ _ _ _ _ _ c.image_in.ensures.fetches
