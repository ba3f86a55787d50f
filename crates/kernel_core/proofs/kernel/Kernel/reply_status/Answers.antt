use Rattle.std.proofs.Common.{◌∙◌, Option, ap}
use Rattle.std.specs.Option.{option_map}
use Rattle.kernel_core.proofs.Steps.{as_seen, reply_seen}
use Rattle.snapshot_host.specs.declared.finishing.Finished.{Finished}
use Rattle.kernel_core.proofs.kernel.Kernel.reply_status.Goals as goal

pub returns : goal.returns
returns g c =
    c.status_of.ensures
    ∙ ap (λ (told : Option Finished). option_map (λ x. x.status) told) (reply_seen _ _ _ (as_seen _ _ _ _ c.self.view_is c.self.invariant.1) c.args.request)
