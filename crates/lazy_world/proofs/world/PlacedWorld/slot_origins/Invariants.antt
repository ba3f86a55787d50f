use Rattle.std.proofs.Common.{◌≡◌, ℕ, ◌-◌, ◌<◌, ◌≤◌, length, None}
use Rattle.lwc_types.specs.declared.key.Key.TheVariants.{Slot}
use Rattle.lazy_world.specs.Transfers.{Gives, transferred_row}
use Rattle.lazy_world.specs.Seen.{count, rows}
use Rattle.lazy_world.specs.Origins.{slot_origin}
use Rattle.lazy_world.specs.Worlds.{seen}
use Rattle.lazy_world.proofs.world.PlacedWorld.slot_origins.Given as goal

abbrev pub invariant-slots : goal.invariant-slots
invariant-slots l = record {
  below : l.next ≤ 64;
  long : length l.origins ≡ 64;
  each : (m : ℕ) → m < l.next → Gives (count l.self.places) (rows l.self.places) l.to (Slot m)
      (transferred_row (seen l.self) l.transfer l.spec (rows l.self.places l.from) (rows l.self.places l.to) (Slot m)) (slot_origin l.origins m);
  later : (m : ℕ) → l.next ≤ m → slot_origin l.origins m ≡ None;
}

abbrev pub decreases-slots : goal.decreases-slots
decreases-slots l = 64 - l.next
