use Rattle.std.proofs.Common.{◌≤◌, length}
use Rattle.cow_space.specs.Changes.{RiseFrom}
use Rattle.cow_space.proofs.kinds.rising_from.Given as goal

abbrev pub invariant-rising : goal.invariant-rising
invariant-rising l = record {
  within : l.from ≤ length l.page_runs;
  rise : RiseFrom l.from l.page_runs;
}

abbrev pub decreases-rising : goal.decreases-rising
decreases-rising l = l.from
