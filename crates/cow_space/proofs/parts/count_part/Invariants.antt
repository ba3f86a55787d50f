use Rattle.std.proofs.Common.{◌-◌, ◌≤◌, length}
use Rattle.cow_space.proofs.PartLemmas.{ArePassed, IsCounted}
use Rattle.cow_space.proofs.parts.count_part.Given as goal

abbrev pub invariant-segments : goal.invariant-segments
invariant-segments l = record {
  passed : ArePassed l.segments l.from l.to l.k l.p;
  counted : IsCounted l.segments l.right l.from l.to l.fn.before l.p l.count l.last;
  few : l.count ≤ l.k;
}

abbrev pub decreases-segments : goal.decreases-segments
decreases-segments l = length l.segments - l.k
