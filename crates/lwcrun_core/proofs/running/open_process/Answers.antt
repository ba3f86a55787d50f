use Rattle.std.proofs.Common.{◌≤◌, ◌∙◌, ap, sym, subst, le_of_eq}
use Rattle.kernel_core.specs.Kernel.{History, machine_of}
use Rattle.kernel_core.specs.Machine.{work}
use Rattle.lwcrun_core.proofs.running.open_process.Goals as goal

pub open-requires-2-clause-room : goal.open-requires-2-clause-room
unfolding machine_of
open-requires-2-clause-room c κs =
    subst (λ (h : History). work (machine_of h) ≤ h.room) (sym c.in_ok-kernel.ensures.opened) (le_of_eq (sym c.first_work-steps.ensures))

pub returns-in-Ok-clause-room : goal.returns-in-Ok-clause-room
returns-in-Ok-clause-room c =
    c.in-Ok.ensures.room ∙ (ap (λ (h : History). h.room) c.in_ok-kernel.ensures.opened ∙ c.first_work-steps.ensures)
