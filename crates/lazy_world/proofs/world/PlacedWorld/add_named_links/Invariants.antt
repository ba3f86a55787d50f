use Rattle.std.proofs.Common.{◌≡◌, ℕ, ◌-◌, ◌<◌, ◌≤◌, Some, true}
use Rattle.std.specs.Prelude.{is_some}
use Rattle.fd_table.specs.Slots.{context_of}
use Rattle.lwc_base.specs.Cells.{value_of}
use Rattle.lwc_base.specs.Life.{is_among}
use Rattle.lwc_base.specs.Modes.{mode}
use Rattle.lwc_types.specs.declared.key.Key.TheVariants.{Slot}
use Rattle.lwc_types.specs.declared.name.Name.{Name}
use Rattle.lazy_world.specs.Seen.{rows}
use Rattle.lazy_world.specs.Worlds.{seen}
use Rattle.lazy_world.proofs.world.PlacedWorld.add_named_links.Given as goal

abbrev pub invariant-slots : goal.invariant-slots
invariant-slots l = record {
  below : l.next ≤ 64;
  more : (d : Name) → is_among l.initial.roots.items d ≡ true → is_among l.roots.items d ≡ true;
  links : (n : ℕ) (d : Name) → n < l.next → is_some (mode l.spec (Slot n)) ≡ true →
      context_of (value_of (seen l.self) (Slot n) (rows l.self.places l.place (Slot n))) ≡ Some d → is_among l.roots.items d ≡ true;
}

abbrev pub decreases-slots : goal.decreases-slots
decreases-slots l = 64 - l.next
