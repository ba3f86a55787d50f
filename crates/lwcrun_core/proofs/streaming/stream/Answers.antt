use Rattle.std.proofs.Common.{◌≡◌, inl, ap, arith}
use Rattle.kernel_core.proofs.Others.{work_at_serve}
use Rattle.lwcrun_inputs.specs.Inputs.{worker_count}
use Rattle.kernel_core.specs.Start.{inputs_of}
use Rattle.lwcrun_core.specs.Works.{IsText}
use Rattle.lwcrun_core.specs.Works as works
use Rattle.lwcrun_inputs.proofs.Follows.{ended_before}
use Rattle.lwcrun_core.proofs.Streams.{streams_behind}
use Rattle.lwcrun_core.proofs.streaming.stream.Goals as goal

pub stream_requests-requires-clause-few : goal.stream_requests-requires-clause-few
stream_requests-requires-clause-few g c κs within =
    let workers : worker_count c.args.settings.now.job ≡ c.requires.settings.workers = ap worker_count c.requires.settings.job in
    let work = work_at_serve (inputs_of c.in-Ok.image c.in-Ok.requests c.args.settings.now) c.requires.settings.workers c.requires.settings.job in
    omega (arith, work, workers, c.in-Ok.ensures.few)

pub returns-in-Ok-clause-ended : goal.returns-in-Ok-clause-ended
returns-in-Ok-clause-ended g c = streams_behind _ _ _ _ _ _ _ (c.in-Ok.ensures.gathers works.Streaming) (c.stream_requests.ensures _)

pub returns-in-Ok-clause-fetches : goal.returns-in-Ok-clause-fetches
returns-in-Ok-clause-fetches g c = c.server_files.ensures.fetches works.Streaming

pub returns-in-Err-clause-ended : goal.returns-in-Err-clause-ended
returns-in-Err-clause-ended g c = inl (ended_before IsText _ _ _ _ _ (c.in-Err.ensures.gathers works.Streaming))

pub returns-in-Err-clause-fetches : goal.returns-in-Err-clause-fetches
returns-in-Err-clause-fetches g c = c.server_files.ensures.fetches works.Streaming
