use Rattle.std.proofs.Common.{◌≡◌, ◌-◌, ◌≤◌}
use Rattle.lwc_types.specs.declared.limits.TheConstants.{MOST_FILE_BYTES}
use Rattle.guest_image.specs.Limits.{content}
use Rattle.guest_image.specs.Reading.{list_at, next_file, files_at}
use Rattle.guest_image.proofs.lists.read_files.Given as goal

abbrev pub invariant-loop : goal.invariant-loop
invariant-loop l = record {
  read : list_at next_file (l.count - l.counter) l.files.items l.reader ≡ files_at l.count l.fn.reader;
  content : l.content ≡ content l.files.items;
  room : l.content ≤ MOST_FILE_BYTES;
}
