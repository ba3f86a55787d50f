use Rattle.lwcrun_core.specs.Works as works
use Rattle.lwcrun_core.specs.Works.{plan_by}
use Rattle.lwcrun_core.proofs.running.serve_generated.Goals as goal

pub returns : goal.returns
unfolding plan_by
returns g c files = c.write_work.ensures (works.Generating c.args.number) files c.summary_text.ensures
