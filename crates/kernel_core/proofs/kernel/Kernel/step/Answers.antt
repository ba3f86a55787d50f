use Rattle.std.proofs.Common.{◌<◌, ◌∙◌, ap, sym, subst}
use Rattle.kernel_core.proofs.Steps.{stepped_inputs}
use Rattle.kernel_core.specs.Kernel.{History}
use Rattle.kernel_core.specs.Start.{Inputs, thread_count}
use Rattle.kernel_core.proofs.kernel.Kernel.step.Goals as goal

pub turn-requires-after_bounds : goal.turn-requires-after_bounds
turn-requires-after_bounds g c κs within =
    let same = ap (λ (h : History). h.inputs) c.in_ok-finished.ensures.step ∙ stepped_inputs _ c.args.thread in
    subst (λ (i : Inputs). c.args.thread < thread_count i) (sym same) c.requires.within
