use Rattle.std.proofs.Common.{refl, sym, ap, ◌∙◌, ◌*◌}
use Rattle.kernel_core.proofs.Others.{work_at_serve, work_at_start}
use Rattle.kernel_core.specs.Start.{inputs_of}
use Rattle.lwcrun_inputs.specs.Inputs.{serve_steps}
use Rattle.lwcrun_core.proofs.running.first_work.Goals as goal

pub returns-in-Run : goal.returns-in-Run
returns-in-Run c =
    ap (λ n. n * c.args.settings.now.budget) c.len.ensures ∙ sym (work_at_start (inputs_of c.args.image.now c.args.requests.now c.args.settings.now) c.in-Run.is)

pub returns-in-Serve : goal.returns-in-Serve
returns-in-Serve c =
    c.most_steps.ensures ∙ ap (serve_steps c.args.settings.now) c.len-in-Serve.ensures
    ∙ (rw c.in-Serve.is refl)
    ∙ sym (work_at_serve (inputs_of c.args.image.now c.args.requests.now c.args.settings.now) c.in-Serve.workers c.in-Serve.is)
