use Rattle.std.proofs.Common.{◌≡◌}
use Rattle.lwc_types.specs.declared.key.Kind.TheVariants as kind
use Rattle.whole_world.specs.Rows.{context_of}
use Rattle.whole_world.specs.Sharing.{clone_cells, is_below, with_cells}
use Rattle.whole_world.specs.Sound.{IsWhole}
use Rattle.whole_world.specs.Worlds.{seen}
use Rattle.whole_world.proofs.world.WholeWorld.clone_slots.Given as goal

abbrev pub invariant-loop-n : goal.invariant-loop-n
invariant-loop-n l = record {
  whole : IsWhole (seen l.self).size.pages l.row;
  context : context_of l.row
      ≡ with_cells (is_below kind.Slot l.n) (clone_cells (seen l.self) l.context l.job l.spec l.rest) (context_of l.initial.row);
}
