use Rattle.std.proofs.Common.{◌≡◌, ◌<◌, ◌++◌, take, All}
use Rattle.std.specs.List.{flat_map}
use Rattle.guest_dis.specs.Listing.{page_line}
use Rattle.guest_dis.proofs.listing.put_pages.Given as goal

abbrev pub invariant-loop-page : goal.invariant-loop-page
invariant-loop-page l = record {
  lines : l.out.items ≡ l.fn.out.items ++ flat_map page_line (take l.page-index l.pages);
  bytes : All (λ x. All (λ b. b < 256) x.bytes) (take l.page-index l.pages);
}
