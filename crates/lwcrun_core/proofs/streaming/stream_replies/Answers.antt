use Rattle.std.proofs.Common.{subst, map}
use Rattle.kernel_core.specs.Histories.{IsComplete}
use Rattle.kernel_core.specs.Start.{start}
use Rattle.lwc_stream.specs.Replies.{AreShown, IsWritten, finished_by}
use Rattle.lwc_stream.proofs.Recorded.{shows_each_reply}
use Rattle.lwcrun_core.proofs.streaming.stream_replies.Goals as goal

pub returns-clause-written : goal.returns-clause-written
returns-clause-written g c =
    let inputs = c.args.process.name.inputs in
    let stream = c.in_ok-failed.field-0 in
    let steps = c.close.result.steps in
    let complete : IsComplete (start inputs) steps = c.close.ensures.complete c.in_ok-failed.ensures.ended in
    let shown = c.in_ok-failed.ensures.written in
    let are = subst (λ n. AreShown (map (finished_by inputs) stream.passes.items) n shown.0) c.requires.count shown.1 in
    let lines =
    shows_each_reply inputs steps stream.passes.items shown.0 c.requires.serve.workers c.requires.can c.requires.serve.job complete c.close.ensures.seen c.in_ok-failed.ensures.all.every are in
    subst (IsWritten stream.failed (g.O.Sink.seen c.args.out.now) (g.O.Sink.seen c.stream_all.new.out)) lines shown.2
