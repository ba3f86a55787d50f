use Rattle.std.proofs.Common.{◌≡◌, ◌<◌, ◌≤◌, ◌-◌}
use Rattle.std.specs.Prelude.{is_some}
use Rattle.lwc_types.specs.declared.limits.TheConstants.{MOST_PAGES}
use Rattle.range_map.specs.Kinds.{begins_range, ranges, state_after}
use Rattle.range_map.proofs.map.RangeMap.count_after.Given as goal

abbrev pub invariant-runs : goal.invariant-runs
invariant-runs l = record {
  inside : l.p ≤ MOST_PAGES;
  begins : l.p < MOST_PAGES → begins_range (state_after l.changes l.segments) l.p ≡ is_some (state_after l.changes l.segments l.p);
  counted : l.count ≡ ranges l.p (state_after l.changes l.segments);
}

abbrev pub decreases-runs : goal.decreases-runs
decreases-runs l = MOST_PAGES - l.p
