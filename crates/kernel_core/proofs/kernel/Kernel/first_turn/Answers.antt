use Rattle.std.proofs.Common.{◌∙◌, List, None, Some, ap, arith, sym, ℕ}
use Rattle.kernel_core.proofs.Steps.{as_seen, last_turn, within}
use Rattle.kernel_core.specs.Runs.{last_finished}
use Rattle.kernel_core.specs.Start.{start}
use Rattle.kernel_core.proofs.kernel.Kernel.first_turn.Goals as goal

pub index-requires : goal.index-requires
index-requires g c =
    let few = within _ _ _ (as_seen _ _ _ _ c.self.view_is c.self.invariant.1) c.args.thread c.requires.within in omega arith

pub returns : goal.returns
returns g c =
    last_turn _ _ _ (as_seen _ _ _ _ c.self.view_is c.self.invariant.1) c.args.thread _ c.requires.within c.index.ensures None
    (ap (λ (steps : List ℕ). last_finished (start c.args.self.now.inputs) steps c.args.thread None) c.requires.fresh)
    ∙ ap Some (sym c.turn.ensures)
