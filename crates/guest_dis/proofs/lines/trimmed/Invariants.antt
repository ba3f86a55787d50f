use Rattle.std.proofs.Common.{◌≡◌, ◌≤◌, length, take}
use Rattle.guest_dis.specs.Listing.{trimmed}
use Rattle.guest_dis.proofs.lines.trimmed.Given as goal

abbrev pub invariant-loop-count : goal.invariant-loop-count
invariant-loop-count l = record {
  same : trimmed (take l.count l.bytes) ≡ trimmed l.bytes;
  within : l.count ≤ length l.bytes;
}

abbrev pub decreases-loop-count : goal.decreases-loop-count
decreases-loop-count l = l.count
