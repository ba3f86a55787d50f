use Rattle.std.proofs.Common.{◌≡◌, ◌-◌, ◌≤◌}
use Rattle.lwc_types.specs.declared.limits.TheConstants.{MOST_RANGES}
use Rattle.guest_image.specs.Numbers.{last, ranges}
use Rattle.guest_image.specs.Limits.{page_numbers}
use Rattle.guest_image.specs.Reading.{list_at, next_page, pages_at}
use Rattle.guest_image.proofs.lists.read_pages.Given as goal

abbrev pub invariant-loop : goal.invariant-loop
invariant-loop l = record {
  read : list_at (next_page l.form) (l.count - l.counter) l.pages.items l.reader ≡ pages_at l.form l.count l.fn.reader;
  last : l.last ≡ last (page_numbers l.pages.items);
  ranges : l.ranges ≡ ranges (page_numbers l.pages.items);
  room : l.ranges ≤ MOST_RANGES;
}
