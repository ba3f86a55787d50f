use Rattle.std.proofs.Common.{arith}
use Rattle.kernel_core.proofs.Steps.{as_seen, turn_noted, within}
use Rattle.kernel_core.proofs.kernel.Kernel.note_turn.Goals as goal

pub index-requires : goal.index-requires
index-requires g c =
    let few = within _ _ _ (as_seen _ _ _ _ c.self.view_is c.self.invariant.1) c.args.thread c.requires in omega arith

pub returns : goal.returns
returns g c =
    turn_noted _ _ _ (as_seen _ _ _ _ c.self.view_is c.self.invariant.1) c.args.thread _ c.requires c.index.ensures c.args.finished _ _ c.recorded.ensures c.note.ensures
