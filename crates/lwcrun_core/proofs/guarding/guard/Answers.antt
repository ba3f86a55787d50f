use Rattle.std.proofs.Common.{refl}
use Rattle.lwcrun_core.specs.Works.{IsText}
use Rattle.lwcrun_core.specs.Works as works
use Rattle.lwcrun_inputs.proofs.Follows.{ended_before, ended_behind}
use Rattle.lwcrun_core.proofs.guarding.guard.Goals as goal

pub returns-in-Ok-clause-ended : goal.returns-in-Ok-clause-ended
returns-in-Ok-clause-ended g c =
    ended_behind IsText _ _ _ _ _ _ _ (c.in-Ok.ensures.gathers works.Guarding) (c.write_work.ensures _ _ (rw (c.in-Ok.ensures.none refl) c.guard_replay.ensures))

pub returns-clause-ended : goal.returns-clause-ended
returns-clause-ended g c = ended_before IsText _ _ _ _ _ (c.in-Err.ensures.gathers works.Guarding)
