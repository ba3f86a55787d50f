use Rattle.std.proofs.Common.{refl}
use Rattle.lwcrun_inputs.specs.Ends.{Ended}
use Rattle.lwcrun_core.specs.Works.{IsText}
use Rattle.lwcrun_inputs.specs.declared.ending.Rejection.{Rejection}
use Rattle.lwcrun_inputs.proofs.Follows.{writes, writes_in_part}
use Rattle.lwcrun_core.proofs.writing.write_work.Goals as goal

pub returns-in-Ok-write_whole : goal.returns-in-Ok-write_whole
returns-in-Ok-write_whole g c work files is =
    writes Rejection IsText _ _ _ (rw c.in-Ok.is at is) (rw c.as_slice.ensures.value at c.in-Ok-write_whole.ensures.whole) (record { files = refl; out = c.in-Ok-write_whole.ensures.no_fault })

pub returns-in-Ok : goal.returns-in-Ok
returns-in-Ok g c work files is =
    writes_in_part Rejection IsText _ _ _ (rw c.in-Ok.is at is) (rw c.as_slice.ensures.value at c.in-Err-write_whole.ensures.part) c.in-Err-write_whole.ensures.cause refl

pub returns : goal.returns
unfolding Ended
returns g c work files is = refl
