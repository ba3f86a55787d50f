use Rattle.std.proofs.Common.{◌≤◌, sym, subst, arith, refl, ◌∙◌, ap}
use Rattle.kernel_core.specs.Kernel.{AreRequests}
use Rattle.kernel_core.specs.Machine.{work}
use Rattle.kernel_core.specs.Start.{Inputs, start}
use Rattle.kernel_core.proofs.Others.{work_at_serve}
use Rattle.lwc_types.specs.declared.limits.TheConstants.{MOST_STEPS}
use Rattle.lwc_gen.specs.Generated.{generated}
use Rattle.lwc_gen.proofs.Served.{can_open, few_steps}
use Rattle.lwcrun_core.proofs.running.summary_text.Goals as goal

pub open_process-requires-clause-requests : goal.open_process-requires-clause-requests
open_process-requires-clause-requests g c =
    subst AreRequests (sym c.in_ok-image.ensures.requests) (can_open c.args.number c.requires.number.1).requests

pub open_process-requires-clause-few : goal.open_process-requires-clause-few
open_process-requires-clause-few g c =
    subst (λ (inputs : Inputs). work (start inputs) ≤ MOST_STEPS)
    (ap (λ image. record (generated c.args.number) { image = image }) (sym c.in_ok-image.ensures.server)
    ∙ ap (λ requests. record (generated c.args.number) { image = c.in_ok-image.image; requests = requests }) (sym c.in_ok-image.ensures.requests))
    (few_steps c.args.number 8 c.requires.number.1 (omega arith) (work_at_serve (generated c.args.number) 8 refl))
