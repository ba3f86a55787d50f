use Rattle.std.proofs.Common.{◌≡◌, ◌∙◌, ◌++◌, inl, ap, is_err, subst}
use Rattle.kernel_core.specs.Runs.{run}
use Rattle.kernel_core.specs.Start.{start}
use Rattle.lwc_stream.proofs.Written.{line_written, still_part}
use Rattle.lwc_stream.specs.Replies.{IsWritten}
use Rattle.lwc_text.specs.Report.{replies_text, rest_after, stream_text}
use Rattle.lwcrun_core.proofs.Streams.{stream_cut, stream_done}
use Rattle.lwcrun_inputs.specs.Ends.{Ended}
use Rattle.lwcrun_core.proofs.streaming.stream_process.Goals as goal

pub returns-in_default : goal.returns-in_default
unfolding Ended
returns-in_default g c files = inl c.in_default.ensures.unwritten

pub returns-then-failed : goal.returns-then-failed
unfolding stream_text
returns-then-failed g c files =
    let inputs = c.args.process.name.inputs in
    let steps = c.in-Ok.kernel.steps in
    let seen = g.O.Sink.seen in
    let part = still_part c.in-Ok.failed (seen c.args.out.now) (seen c.stream_replies.new.out) (replies_text (run (start inputs) steps)) (rest_after inputs steps) c.if-failed.true c.in-Ok.ensures.written in
    let cut = subst (λ b. IsWritten b (seen c.args.out.now) (seen c.stream_replies.new.out) (stream_text inputs steps)) c.if-failed.true part in
    stream_cut files _ _ inputs steps c.in-Ok.ensures.complete cut

pub returns-in-Ok-write_whole : goal.returns-in-Ok-write_whole
unfolding stream_text
returns-in-Ok-write_whole g c files =
    let inputs = c.args.process.name.inputs in
    let steps = c.in-Ok.kernel.steps in
    let seen = g.O.Sink.seen in
    let replies = replies_text (run (start inputs) steps) in
    let line : c.as_slice.result.now ≡ rest_after inputs steps = c.as_slice.ensures.value ∙ c.in-Ok-rest.ensures.exact ∙ ap (λ i. rest_after i steps) c.in-Ok.ensures.inputs in
    let all = line_written c.in-Ok.failed c.write_whole.result (seen c.args.out.now) (seen c.stream_replies.new.out) (seen c.write_whole.new.out) replies c.as_slice.result.now c.if-failed.false
    c.write_whole.ensures.whole c.write_whole.ensures.part c.write_whole.ensures.no_fault c.write_whole.ensures.cause c.in-Ok.ensures.written in
    let text = subst (λ l. IsWritten (is_err c.write_whole.result) (seen c.args.out.now) (seen c.write_whole.new.out) (replies ++ l)) line all in
    let whole = subst (λ r. IsWritten (is_err r) (seen c.args.out.now) (seen c.write_whole.new.out) (stream_text inputs steps)) c.in-Ok-write_whole.is text in
    stream_done files _ _ inputs steps c.in-Ok.ensures.complete whole

pub returns : goal.returns
unfolding stream_text
returns g c files =
    let inputs = c.args.process.name.inputs in
    let steps = c.in-Ok.kernel.steps in
    let seen = g.O.Sink.seen in
    let replies = replies_text (run (start inputs) steps) in
    let line : c.as_slice.result.now ≡ rest_after inputs steps = c.as_slice.ensures.value ∙ c.in-Ok-rest.ensures.exact ∙ ap (λ i. rest_after i steps) c.in-Ok.ensures.inputs in
    let all = line_written c.in-Ok.failed c.write_whole.result (seen c.args.out.now) (seen c.stream_replies.new.out) (seen c.write_whole.new.out) replies c.as_slice.result.now c.if-failed.false
    c.write_whole.ensures.whole c.write_whole.ensures.part c.write_whole.ensures.no_fault c.write_whole.ensures.cause c.in-Ok.ensures.written in
    let text = subst (λ l. IsWritten (is_err c.write_whole.result) (seen c.args.out.now) (seen c.write_whole.new.out) (replies ++ l)) line all in
    let cut = subst (λ r. IsWritten (is_err r) (seen c.args.out.now) (seen c.write_whole.new.out) (stream_text inputs steps)) c.in-Err.is text in
    stream_cut files _ _ inputs steps c.in-Ok.ensures.complete cut
