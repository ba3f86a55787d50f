use Rattle.std.proofs.Common.{ℕ, ◌<◌, ◌≤◌, ◌-◌, get_or, length}
use Rattle.cow_space.specs.declared.page_runs.PageRun.{PageRun}
use Rattle.cow_space.proofs.kinds.ended_by.Given as goal

abbrev pub invariant-ended : goal.invariant-ended
invariant-ended l = record {
  before : (k : ℕ) (d : PageRun) → k < l.count → (get_or l.page_runs k d).range.to ≤ l.page;
}

abbrev pub decreases-ended : goal.decreases-ended
decreases-ended l = length l.page_runs - l.count
