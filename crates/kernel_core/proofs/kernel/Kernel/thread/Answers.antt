use Rattle.std.proofs.Common.{◌∙◌, Some, ap, arith, sym}
use Rattle.kernel_core.proofs.Steps.{as_seen, viewed, within}
use Rattle.kernel_core.proofs.kernel.Kernel.thread.Goals as goal

pub index-requires : goal.index-requires
index-requires g c =
    let few = within _ _ _ (as_seen _ _ _ _ c.self.view_is c.self.invariant.1) c.args.thread_number c.requires in omega arith

pub returns : goal.returns
returns g c =
    viewed _ _ _ (as_seen _ _ _ _ c.self.view_is c.self.invariant.1) c.args.thread_number _ c.requires c.index.ensures
    ∙ ap Some (sym c.view.ensures)
