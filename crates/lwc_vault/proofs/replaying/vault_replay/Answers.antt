use Rattle.std.proofs.Common.{◌<◌, All, ap, subst, sym}
use Rattle.kernel_core.specs.Kernel.{History}
use Rattle.kernel_core.specs.Start.{Inputs, thread_count, threads_for}
use Rattle.kernel_core.specs.declared.settings.Job.{Job}
use Rattle.lwc_vault.proofs.Schedules.{keeps_secret_of}
use Rattle.lwc_vault.proofs.replaying.vault_replay.Goals as goal

pub report_of_schedule-requires-clause-threads : goal.report_of_schedule-requires-clause-threads
unfolding thread_count
report_of_schedule-requires-clause-threads g c κs within =
    let opened = ap (λ (h : History). h.inputs) c.in_ok-kernel.ensures.opened in
    subst (λ (i : Inputs). All (λ t. t < thread_count i) c.args.schedule.now) (sym opened)
    (subst (λ (job : Job). All (λ t. t < threads_for c.args.image.now job) c.args.schedule.now) (sym c.requires.vault.run) c.requires.threads)

pub returns-in-Ok-clause-secret : goal.returns-in-Ok-clause-secret
returns-in-Ok-clause-secret g c =
    keeps_secret_of c.args.image.now c.args.vault.now c.args.settings.now c.args.schedule.now c.requires.image c.requires.vault c.requires.settings (λ less. let never = c.in_ok-kernel.ensures.too_large less in cc)
