use Rattle.std.proofs.Common.{◌≡◌}
use Rattle.lwc_types.specs.declared.key.Kind.TheVariants as kind
use Rattle.whole_world.specs.Rows.{context_of}
use Rattle.whole_world.specs.Sharing.{clone_cells, is_below, with_cells}
use Rattle.whole_world.specs.Sound.{IsWhole}
use Rattle.whole_world.specs.Worlds.{seen}
use Rattle.whole_world.proofs.world.WholeWorld.clone_pages.Given as goal

abbrev pub invariant-loop-p : goal.invariant-loop-p
invariant-loop-p l = record {
  whole : IsWhole (seen l.self).size.pages l.row;
  context : context_of l.row
      ≡ with_cells (is_below kind.Page l.p) (clone_cells (seen l.self) l.context l.job l.spec l.rest) (context_of l.initial.row);
}
