use Rattle.std.proofs.Common.{◌∙◌, ◌++◌, ◌∷◌, [], ap}
use Rattle.kernel_core.proofs.HomeMade.{worker_pushed}
use Rattle.kernel_core.specs.declared.thread.Thread.{Thread}
use Rattle.kernel_core.specs.Start.{first_workers}
use Rattle.kernel_core.specs.Step.{waiting}
use Rattle.lwc_types.specs.Registers.{fresh_registers}
use Rattle.lwc_types.specs.declared.name.Name.{Name}
use Rattle.kernel_core.proofs.starting.first_workers.Goals as goal

pub workers-init : goal.workers-init
unfolding first_workers
workers-init c = c.new-threads.ensures.items

pub workers-preserved : goal.workers-preserved
workers-preserved c =
    worker_pushed c.args.entry c.workers.t c.fresh-regs.result _ _ (c.fresh-regs.ensures ∙ ap fresh_registers c.from.ensures) c.workers.invariant
    (c.in_ok-push.ensures.items ∙ ap (λ (x : Thread). c.workers.threads.items ++ x ∷ []) (c.waiting.ensures ∙ ap (λ (home : Name). waiting home c.fresh-regs.result) c.home_of.ensures))
