use Rattle.std.proofs.Common.{sym}
use Rattle.std.proofs.lemmas.Result.{IfOk-weaker}
use Rattle.lwc_text.proofs.Replays.{text_is}
use Rattle.lwcrun_core.proofs.running.report_of.Goals as goal

pub returns : goal.returns
returns g c =
    let made = c.in_ok-kernel.kernel in
    let complete = c.in_ok-kernel.ensures.complete in
    IfOk-weaker c.report-text.result _ _ (λ text exact.
    (made.steps, complete, text_is made c.args.process.name.inputs made.steps _ c.in_ok-kernel.ensures.inputs (sym complete.legal) exact)) c.report-text.ensures.exact
