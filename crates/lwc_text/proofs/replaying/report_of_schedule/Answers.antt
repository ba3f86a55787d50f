use Rattle.lwc_text.proofs.Replays.{text_is}
use Rattle.lwc_text.proofs.replaying.report_of_schedule.Goals as goal

pub returns : goal.returns
returns g c =
    text_is c.make_steps.new.kernel c.args.kernel.inputs c.args.schedule.now _ c.in_ok-make_steps.ensures.inputs c.in_ok-make_steps.ensures.steps
    c.in_ok-text.ensures.exact
