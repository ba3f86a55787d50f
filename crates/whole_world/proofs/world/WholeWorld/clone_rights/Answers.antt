use Rattle.std.proofs.Common.{◌∙◌, ap, arith}
use Rattle.lwc_base.specs.Sharing.{cloned_right}
use Rattle.whole_world.specs.Worlds.{seen}
use Rattle.whole_world.proofs.CloneCells.{with_rights-next}
use Rattle.whole_world.proofs.Worlds.{still_whole}
use Rattle.whole_world.proofs.world.WholeWorld.clone_rights.Goals as goal

pub set_right-requires : goal.set_right-requires
set_right-requires c = omega (arith, c.loop-p.invariant.whole.rights, c.page_count-p-end.ensures, c.loop-p-test.true)

pub loop-p-preserved : goal.loop-p-preserved
loop-p-preserved c = record {
  whole = still_whole _ _ _ c.loop-p.invariant.whole c.set_right.ensures.size;
  context = with_rights-next c.loop-p.p _ _ _ _ _ c.loop-p.invariant.context
      (c.cloned_right.ensures ∙ ap (cloned_right (seen c.args.self.now) c.args.context c.loop-p.p) c.mode_or-mode.ensures) c.set_right.ensures.context;
}
