use Rattle.std.proofs.Common.{◌-◌, ◌≤◌}
use Rattle.std.specs.List.{list_any, range_with_len}
use Rattle.lwc_base.specs.Life.{is_in}
use Rattle.lwc_types.specs.declared.key.Key.TheVariants.{Slot}
use Rattle.lazy_world.specs.Reaping.{AddsMarks}
use Rattle.lazy_world.specs.Seen.{rows}
use Rattle.lazy_world.proofs.world.PlacedWorld.mark_slots.Given as goal

abbrev pub invariant-slots : goal.invariant-slots
invariant-slots l = record {
  below : l.from ≤ 64;
  marked : AddsMarks l.self.groups.places (λ g. list_any (λ k. is_in g (rows l.self.places l.place (Slot k))) (range_with_len 0 l.from)) l.initial.marks l.marks;
}

abbrev pub decreases-slots : goal.decreases-slots
decreases-slots l = 64 - l.from
