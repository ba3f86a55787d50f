use Rattle.std.proofs.Common.{◌+◌, ◌*◌, ◌<◌, ◌≤◌, ◌-◌, length}
use Rattle.lwc_types.specs.declared.limits.TheConstants.{MOST_PAGES}
use Rattle.range_map.specs.Kinds.{ranges}
use Rattle.range_map.proofs.Walks.{edges_to, present}
use Rattle.lazy_world.specs.Cells.{states_of}
use Rattle.lazy_world.specs.Seen.{count, rights, rows}
use Rattle.lazy_world.proofs.FitLemmas.{fits}
use Rattle.lazy_world.proofs.OriginLemmas.{HasGiven}
use Rattle.item_modes.specs.Runs.{IsModeRun}
use Rattle.lazy_world.proofs.world.PlacedWorld.list_page_runs.Given as goal

abbrev pub invariant-pages : goal.invariant-pages
invariant-pages l = record {
  inside : l.p ≤ MOST_PAGES;
  modes : IsModeRun l.spec l.p l.modes;
  has : HasGiven (count l.self.places) l.to (fits l.self l.transfer l.spec l.from l.to) l.p l.page_runs.items;
  few : l.p < MOST_PAGES → length l.page_runs.items + present (states_of (rows l.self.places l.from) (rights l.self.places l.from) l.p)
      ≤ 2 * ranges (l.p + 1) (states_of (rows l.self.places l.from) (rights l.self.places l.from)) + edges_to (λ item. item.from) (λ item. item.to) l.spec l.p;
  most : length l.page_runs.items ≤ 1 + 2 * (ranges MOST_PAGES (states_of (rows l.self.places l.from) (rights l.self.places l.from)) + length l.spec);
}

abbrev pub decreases-pages : goal.decreases-pages
decreases-pages l = MOST_PAGES - l.p
