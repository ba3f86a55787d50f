use Rattle.std.proofs.Common.{◌≡◌, ◌-◌}
use Rattle.guest_image.specs.Reading.{list_at, next_entry, entries_at}
use Rattle.guest_image.proofs.lists.read_entries.Given as goal

abbrev pub invariant-loop : goal.invariant-loop
invariant-loop l = list_at (next_entry l.instructions) (l.count - l.counter) l.entries.items l.reader ≡ entries_at l.instructions l.count l.fn.reader
