use Rattle.std.proofs.Common.{◌≡◌, ℕ, suc, ◌≤◌, ◌-◌, None}
use Rattle.lwc_types.specs.declared.limits.TheConstants.{MOST_PAGES}
use Rattle.range_map.specs.Kinds.{ranges}
use Rattle.lazy_world.specs.Cells.{states_of}
use Rattle.lazy_world.specs.Worlds.{right_transferred, transferred}
use Rattle.item_modes.specs.Runs.{IsModeRun}
use Rattle.lazy_world.proofs.world.PlacedWorld.count_transferred.Given as goal

abbrev pub invariant-pages : goal.invariant-pages
invariant-pages l = record {
  inside : l.p ≤ MOST_PAGES;
  modes : IsModeRun l.spec l.p l.modes;
  counted : l.count ≡ ranges l.p (states_of (transferred l.self l.transfer l.spec l.from l.to) (right_transferred l.self l.transfer l.spec l.from l.to));
  first : l.p ≡ 0 → l.last ≡ None;
  later : (n : ℕ) → l.p ≡ suc n → l.last ≡ states_of (transferred l.self l.transfer l.spec l.from l.to) (right_transferred l.self l.transfer l.spec l.from l.to) n;
}

abbrev pub decreases-pages : goal.decreases-pages
decreases-pages l = MOST_PAGES - l.p
