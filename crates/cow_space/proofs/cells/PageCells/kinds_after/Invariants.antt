use Rattle.std.proofs.Common.{◌≤◌, ◌-◌}
use Rattle.lwc_types.specs.declared.limits.TheConstants.{MOST_PAGES}
use Rattle.cow_space.specs.Changes.{changed_states}
use Rattle.cow_space.specs.Seen.{cells, rights}
use Rattle.cow_space.proofs.KindChanges.{HaveBelow}
use Rattle.cow_space.proofs.cells.PageCells.kinds_after.Given as goal

abbrev pub invariant-stretches : goal.invariant-stretches
invariant-stretches l = record {
  inside : l.p ≤ MOST_PAGES;
  have : HaveBelow l.p (changed_states (cells l.self) (rights l.self) l.place l.page_runs l.reads) l.kinds;
}

abbrev pub decreases-stretches : goal.decreases-stretches
decreases-stretches l = MOST_PAGES - l.p
