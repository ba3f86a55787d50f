use Rattle.std.proofs.Common.{◌≡◌, ◌-◌}
use Rattle.guest_image.specs.Numbers.{last}
use Rattle.guest_image.specs.Limits.{slot_numbers}
use Rattle.guest_image.specs.Reading.{list_at, next_slot, slots_at}
use Rattle.guest_image.proofs.lists.read_slots.Given as goal

abbrev pub invariant-loop : goal.invariant-loop
invariant-loop l = record {
  read : list_at (next_slot l.files) (l.count - l.counter) l.slots.items l.reader ≡ slots_at l.files l.count l.fn.reader;
  last : l.last ≡ last (slot_numbers l.slots.items);
}
