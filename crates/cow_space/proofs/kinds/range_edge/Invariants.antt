use Rattle.std.proofs.Common.{◌≡◌, ◌<◌, ◌≤◌, take, true}
use Rattle.std.specs.Prelude.{All}
use Rattle.range_map.proofs.Alike.{HasNoEdge}
use Rattle.cow_space.specs.Changes.{is_range_edge}
use Rattle.cow_space.proofs.kinds.range_edge.Given as goal

abbrev pub invariant-loop-range : goal.invariant-loop-range
invariant-loop-range l = record {
  past : l.page < l.next;
  within : l.next ≤ l.edge;
  edge : l.next < l.edge → is_range_edge (take l.range-index l.ranges) l.next ≡ true;
  none : All (λ r. HasNoEdge l.page l.next r.from r.to) (take l.range-index l.ranges);
}
