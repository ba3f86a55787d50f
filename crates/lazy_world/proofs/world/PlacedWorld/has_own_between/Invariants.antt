use Rattle.std.proofs.Common.{◌≡◌, ◌≤◌, ◌<◌, ◌-◌, ℕ, false}
use Rattle.lwc_base.specs.Sharing.{has_own}
use Rattle.lwc_types.specs.declared.key.Key.TheVariants.{Page}
use Rattle.lwc_types.specs.declared.limits.TheConstants.{MOST_PAGES}
use Rattle.lazy_world.specs.Seen.{rows}
use Rattle.lazy_world.proofs.world.PlacedWorld.has_own_between.Given as goal

abbrev pub invariant-pages : goal.invariant-pages
invariant-pages l = record {
  first : l.range.from ≤ l.p;
  inside : l.p ≤ MOST_PAGES;
  none : (q : ℕ) → l.range.from ≤ q → q < l.p → has_own (Page q) (rows l.self.places l.place (Page q)) ≡ false;
}

abbrev pub decreases-pages : goal.decreases-pages
decreases-pages l = MOST_PAGES - l.p
