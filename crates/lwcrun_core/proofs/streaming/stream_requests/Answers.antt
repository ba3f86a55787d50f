use Rattle.std.proofs.Common.{inl, refl, subst}
use Rattle.kernel_core.specs.Start.{Inputs}
use Rattle.lwcrun_core.specs.StreamEnds.{StreamEnded}
use Rattle.lwcrun_inputs.specs.Ends.{Ended}
use Rattle.lwcrun_core.specs.Works as works
use Rattle.lwcrun_inputs.specs.Plans as plans
use Rattle.lwcrun_inputs.specs.Views.{end_of, outside}
use Rattle.lwcrun_core.proofs.streaming.stream_requests.Goals as goal

pub returns-in-Ok : goal.returns-in-Ok
returns-in-Ok g c files =
    subst (λ (inputs : Inputs). StreamEnded (outside files files (g.O.Sink.seen c.args.out.now) (g.O.Sink.seen c.stream_process.new.out)) (plans.Write (works.Streaming inputs)) (end_of c.stream_process.result))
    c.in-Ok.ensures.inputs (c.stream_process.ensures files)

pub returns-in-Err : goal.returns-in-Err
unfolding Ended
returns-in-Err g c files = inl refl
