use Rattle.std.proofs.Common.{ap, subst, sym}
use Rattle.kernel_core.proofs.Reaping.{leaves_stored}
use Rattle.kernel_core.specs.Changes.{LeavesNothing}
use Rattle.kernel_core.specs.declared.thread.Thread.{Thread}
use Rattle.lwc_types.specs.declared.name.Name.{Name}
use Rattle.kernel_core.proofs.memory.store_bytes.Goals as goal

pub returns-in-Ok-clause-kept : goal.returns-in-Ok-clause-kept
returns-in-Ok-clause-kept g c =
    subst (λ (d : Name). LeavesNothing (g.W.World.seen c.args.world.now) c.args.thread.now.context (g.W.World.seen c.store.new.self) d) (sym (ap (λ (x : Thread). x.context) c.advance.ensures))
    (leaves_stored _ _ _ c.args.thread.now.job _ c.in-Ok.ensures.done)
