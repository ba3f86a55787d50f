use Rattle.std.proofs.Common.{◌≡◌, ℕ, ◌-◌, ◌<◌, ◌≤◌, false}
use Rattle.lwc_base.specs.Cells.{value_of}
use Rattle.lwc_base.specs.Summaries.{is_empty}
use Rattle.lwc_types.specs.declared.key.Key.TheVariants.{Slot}
use Rattle.lazy_world.specs.Seen.{rows}
use Rattle.lazy_world.specs.Worlds.{seen}
use Rattle.lazy_world.proofs.world.PlacedWorld.lowest_empty_at.Given as goal

abbrev pub invariant-slots : goal.invariant-slots
invariant-slots l = record {
  below : l.from ≤ 64;
  past : (n : ℕ) → n < l.from → is_empty (value_of (seen l.self) (Slot n) (rows l.self.places l.place (Slot n))) ≡ false;
}

abbrev pub decreases-slots : goal.decreases-slots
decreases-slots l = 64 - l.from
