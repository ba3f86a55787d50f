use Rattle.std.proofs.Common.{◌≡◌, ℕ, Some, take, false}
use Rattle.lwc_base.specs.declared.item.Mode.TheVariants.{Share}
use Rattle.lwc_base.specs.Modes.{mode}
use Rattle.lwc_types.specs.declared.key.Key.TheVariants.{Page}
use Rattle.lazy_world.specs.Transfers.{moves}
use Rattle.lazy_world.specs.Seen.{rows}
use Rattle.lazy_world.proofs.world.PlacedWorld.moves_page.Given as goal

abbrev pub invariant-loop-item : goal.invariant-loop-item
invariant-loop-item l = record {
  none : (q : ℕ) → mode (take l.item-index l.item-items) (Page q) ≡ Some Share → moves l.spec (Page q) (rows l.self.places l.place) ≡ false;
}
