use Rattle.std.proofs.Common.{◌≡◌, ◌-◌, ◌<◌, ◌≤◌, ℕ, slice_index}
use Rattle.page_tree.proofs.node.next_link.Given as goal

abbrev pub decreases-places : goal.decreases-places
decreases-places l = 32 - l.at

abbrev pub invariant-places : goal.invariant-places
invariant-places l =
    record {
      order : l.from ≤ l.at;
      inside : l.at ≤ 32;
      none : (k : ℕ) → l.from ≤ k → k < l.at → slice_index l.links k ≡ 0;
    }
