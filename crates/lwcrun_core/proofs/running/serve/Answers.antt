use Rattle.std.proofs.Common.{◌≡◌, ap, arith}
use Rattle.kernel_core.proofs.Others.{work_at_serve}
use Rattle.lwcrun_inputs.specs.Inputs.{worker_count}
use Rattle.kernel_core.specs.Start.{inputs_of}
use Rattle.lwcrun_core.specs.Works.{IsText}
use Rattle.lwcrun_core.specs.Works as works
use Rattle.lwcrun_inputs.proofs.Follows.{ended_before, ended_behind}
use Rattle.lwcrun_core.proofs.running.serve.Goals as goal

pub returns-in-Ok-clause-ended : goal.returns-in-Ok-clause-ended
returns-in-Ok-clause-ended g c = ended_behind IsText _ _ _ _ _ _ _ (c.in-Ok.ensures.gathers works.Running) (c.write_work.ensures _ _ c.history_text.ensures)

pub returns-in-Ok-clause-fetches : goal.returns-in-Ok-clause-fetches
returns-in-Ok-clause-fetches g c = c.server_files.ensures.fetches works.Running

pub returns-in-Err-clause-ended : goal.returns-in-Err-clause-ended
returns-in-Err-clause-ended g c = ended_before IsText _ _ _ _ _ (c.in-Err.ensures.gathers works.Running)

pub returns-in-Err-clause-fetches : goal.returns-in-Err-clause-fetches
returns-in-Err-clause-fetches g c = c.server_files.ensures.fetches works.Running

pub history_text-requires-clause-few : goal.history_text-requires-clause-few
history_text-requires-clause-few g c κs within =
    let workers : worker_count c.args.settings.now.job ≡ c.requires.settings.workers = ap worker_count c.requires.settings.job in
    let work = work_at_serve (inputs_of c.in-Ok.image c.in-Ok.requests c.args.settings.now) c.requires.settings.workers c.requires.settings.job in
    omega (arith, work, workers, c.in-Ok.ensures.few)
