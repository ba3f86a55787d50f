use Rattle.std.proofs.Common.{◌≡◌, ℕ, suc, ◌≤◌, ◌-◌, None}
use Rattle.lwc_types.specs.declared.limits.TheConstants.{MOST_PAGES}
use Rattle.range_map.specs.Kinds.{ranges}
use Rattle.cow_space.specs.Changes.{changed_states}
use Rattle.cow_space.specs.Seen.{cells, rights}
use Rattle.cow_space.proofs.cells.PageCells.count_after.Given as goal

abbrev pub invariant-stretches : goal.invariant-stretches
invariant-stretches l = record {
  inside : l.p ≤ MOST_PAGES;
  counted : l.count ≡ ranges l.p (changed_states (cells l.self) (rights l.self) l.place l.page_runs l.reads);
  first : l.p ≡ 0 → l.last ≡ None;
  later : (n : ℕ) → l.p ≡ suc n → l.last ≡ changed_states (cells l.self) (rights l.self) l.place l.page_runs l.reads n;
}

abbrev pub decreases-stretches : goal.decreases-stretches
decreases-stretches l = MOST_PAGES - l.p
