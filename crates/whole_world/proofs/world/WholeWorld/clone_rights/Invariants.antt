use Rattle.std.proofs.Common.{◌≡◌}
use Rattle.std.specs.Prelude.{unwrap_or}
use Rattle.lwc_base.specs.Modes.{mode}
use Rattle.lwc_base.specs.Sharing.{cloned_right}
use Rattle.lwc_types.specs.declared.key.Key.TheVariants.{Page}
use Rattle.whole_world.specs.Rows.{context_of}
use Rattle.whole_world.specs.Sharing.{with_rights}
use Rattle.whole_world.specs.Sound.{IsWhole}
use Rattle.whole_world.specs.Worlds.{seen}
use Rattle.whole_world.proofs.world.WholeWorld.clone_rights.Given as goal

abbrev pub invariant-loop-p : goal.invariant-loop-p
invariant-loop-p l = record {
  whole : IsWhole (seen l.self).size.pages l.row;
  context : context_of l.row
      ≡ with_rights l.p (λ p. cloned_right (seen l.self) l.context p (unwrap_or (mode l.spec (Page p)) l.rest)) (context_of l.initial.row);
}
