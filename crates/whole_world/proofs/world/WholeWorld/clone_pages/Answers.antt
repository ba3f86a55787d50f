use Rattle.lwc_types.specs.declared.key.Kind.TheVariants as kind
use Rattle.whole_world.proofs.Moves.{with_cells-next}
use Rattle.whole_world.proofs.Worlds.{still_whole}
use Rattle.whole_world.proofs.world.WholeWorld.clone_pages.Goals as goal

pub clone_key-requires-clause-whole : goal.clone_key-requires-clause-whole
clone_key-requires-clause-whole c = c.loop-p.invariant.whole

pub loop-p-preserved : goal.loop-p-preserved
loop-p-preserved c = record {
  whole = still_whole _ _ _ c.loop-p.invariant.whole c.clone_key.ensures.size;
  context = with_cells-next kind.Page c.loop-p.p _ _ _ _ c.loop-p.invariant.context c.in_ok-clone_key.ensures.context;
}
