use Rattle.std.proofs.Common.{◌≡◌, ◌<◌, All, IfOk, ap, subst, sym}
use Rattle.kernel_core.specs.Kernel.{History}
use Rattle.kernel_core.specs.Start.{Inputs, thread_count}
use Rattle.lwc_text.specs.Report.{report_of_schedule}
use Rattle.lwcrun_core.proofs.replaying.replay_text.Goals as goal

pub report_of_schedule-requires-clause-threads : goal.report_of_schedule-requires-clause-threads
unfolding thread_count
report_of_schedule-requires-clause-threads c _ =
    let opened = ap (λ (h : History). h.inputs) c.in_ok-kernel.ensures in
    subst (λ (i : Inputs). All (λ t. t < thread_count i) c.args.schedule.now) (sym opened) c.requires.threads

pub returns : goal.returns
returns c =
    let opened = ap (λ (h : History). h.inputs) c.in_ok-kernel.ensures in
    subst (λ (i : Inputs). IfOk c.report_of_schedule.result (λ text. text.items ≡ report_of_schedule i c.args.schedule.now)) opened c.report_of_schedule.ensures
