use Rattle.std.proofs.Common.{◌≡◌, take}
use Rattle.range_map.proofs.map.RangeMapCopyFrom.copy_from.Given as goal

abbrev pub invariant-loop-segment : goal.invariant-loop-segment
invariant-loop-segment l = l.self-inside.segments.items ≡ take l.segment-index l.segment-items
