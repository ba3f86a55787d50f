use Rattle.std.proofs.Common.{◌≡◌, ◌++◌, ◌∙◌, Some, is_err, sym, ap, subst}
use Rattle.lwc_stream.proofs.Written.{line_written, still_part}
use Rattle.lwc_stream.specs.Replies.{IsWritten, line_of}
use Rattle.lwc_text.specs.Lines.{reply_line}
use Rattle.snapshot_host.specs.declared.finishing.Finished.{Finished}
use Rattle.lwc_stream.proofs.writer.LineWriter.write.Goals as goal

pub returns-then-self : goal.returns-then-self
returns-then-self g c = λ before text w.
    still_part c.args.self.now before (g.O.Sink.seen c.args.out.now) text (line_of c.args.reply) (sym c.self.view_is ∙ c.if-self.true) w

pub returns : goal.returns
returns g c = λ before text w.
    let seen = g.O.Sink.seen in
    let now = seen c.write_whole.new.out in
    let line : c.as_slice.result.now ≡ line_of c.args.reply =
    c.as_slice.ensures.value
    ∙ (c.in-Ok.ensures.ok
    ∙ (ap (λ (told : Finished). c.clear.new.self.items ++ reply_line told.request (Some c.args.reply)) c.reply.view_is
    ∙ ap (λ l. l ++ line_of c.args.reply) c.clear.ensures.items)) in
    subst (λ b. IsWritten b before now (text ++ line_of c.args.reply)) (sym c.is_err-self-inside.ensures.value)
    (subst (λ l. IsWritten (is_err c.write_whole.result) before now (text ++ l)) line
    (line_written c.args.self.now c.write_whole.result before (seen c.args.out.now) now text c.as_slice.result.now (sym c.self.view_is ∙ c.if-self.false)
    c.write_whole.ensures.whole c.write_whole.ensures.part c.write_whole.ensures.no_fault c.write_whole.ensures.cause w))
