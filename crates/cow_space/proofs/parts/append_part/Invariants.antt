use Rattle.std.proofs.Common.{◌-◌, length}
use Rattle.cow_space.specs.Changes.{states_with}
use Rattle.cow_space.specs.Maps.{put_range}
use Rattle.range_map.specs.Kinds.{state_at}
use Rattle.cow_space.proofs.KindChanges.{HaveBelow}
use Rattle.cow_space.proofs.PartLemmas.{ArePassed}
use Rattle.cow_space.proofs.parts.append_part.Given as goal

abbrev pub invariant-segments : goal.invariant-segments
invariant-segments l = record {
  passed : ArePassed l.segments l.from l.to l.k l.p;
  have : HaveBelow l.p (put_range (state_at l.fn.kinds) l.from l.to (states_with l.segments l.right)) l.kinds;
}

abbrev pub decreases-segments : goal.decreases-segments
decreases-segments l = length l.segments - l.k
