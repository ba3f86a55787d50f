use Rattle.std.proofs.Common.{◌≡◌, ◌+◌, ◌≤◌, None, drop}
use Rattle.guest_image.specs.Limits.{page_numbers}
use Rattle.guest_image.specs.Numbers.{ranges, ranges_after}
use Rattle.lwc_session.proofs.pages.range_count.Given as goal

-- the ranges that were counted, and those of the pages that are left
abbrev pub invariant-pages : goal.invariant-pages
invariant-pages l = record {
  few : l.count ≤ l.i;
  all : ranges (page_numbers l.pages) ≡ l.count + ranges_after l.before (page_numbers (drop l.i l.pages));
}
