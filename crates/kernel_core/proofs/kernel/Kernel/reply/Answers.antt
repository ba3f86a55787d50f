use Rattle.std.proofs.Common.{◌∙◌}
use Rattle.kernel_core.proofs.Steps.{as_seen, kept_seen, reply_seen}
use Rattle.kernel_core.proofs.kernel.Kernel.reply.Goals as goal

pub recorded-requires : goal.recorded-requires
recorded-requires g c = kept_seen _ _ _ (as_seen _ _ _ _ c.self.view_is c.self.invariant.1) c.args.request

pub returns : goal.returns
returns g c = c.recorded.ensures ∙ reply_seen _ _ _ (as_seen _ _ _ _ c.self.view_is c.self.invariant.1) c.args.request
