use Rattle.std.proofs.Common.{◌≡◌, ℕ, ◌-◌, ◌<◌, ◌≤◌, Some}
use Rattle.fd_table.specs.Slots.{context_of}
use Rattle.lwc_base.specs.Cells.{value_of}
use Rattle.lwc_base.specs.Life.{Reaches}
use Rattle.lwc_types.specs.declared.key.Key.TheVariants.{Slot}
use Rattle.lwc_types.specs.declared.name.Name.{Name}
use Rattle.lazy_world.specs.Seen.{rows}
use Rattle.lazy_world.specs.Worlds.{seen}
use Rattle.lazy_world.proofs.world.PlacedWorld.has_all_near.Given as goal

abbrev pub invariant-slots : goal.invariant-slots
invariant-slots l = record {
  below : l.from ≤ 64;
  near : (n : ℕ) (c : Name) → n < l.from → context_of (value_of (seen l.self) (Slot n) (rows l.self.places l.place (Slot n))) ≡ Some c → Reaches (seen l.self) l.roots c;
}

abbrev pub decreases-slots : goal.decreases-slots
decreases-slots l = 64 - l.from
