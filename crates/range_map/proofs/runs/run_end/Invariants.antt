use Rattle.std.proofs.Common.{◌≡◌, ◌<◌, ◌≤◌, ◌-◌, ℕ}
use Rattle.lwc_types.specs.declared.limits.TheConstants.{MOST_PAGES}
use Rattle.range_map.specs.Kinds.{state_after}
use Rattle.range_map.proofs.runs.run_end.Given as goal

abbrev pub invariant-runs : goal.invariant-runs
invariant-runs l = record {
  past : l.page < l.end;
  within : l.end ≤ MOST_PAGES;
  alike : (q : ℕ) → l.page ≤ q → q < l.end → state_after l.changes l.segments q ≡ state_after l.changes l.segments l.page;
}

abbrev pub decreases-runs : goal.decreases-runs
decreases-runs l = MOST_PAGES - l.end
