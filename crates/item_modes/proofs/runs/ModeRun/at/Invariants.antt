use Rattle.std.proofs.Common.{◌≡◌, ◌<◌, ◌≤◌, ◌||◌, ℕ, None, take, true}
use Rattle.std.specs.Prelude.{◌==◌}
use Rattle.std.specs.List.{list_any}
use Rattle.lwc_base.specs.Modes.{mode}
use Rattle.lwc_types.specs.declared.key.Key.TheVariants.{Page}
use Rattle.lwc_types.specs.declared.limits.TheConstants.{MOST_PAGES}
use Rattle.item_modes.proofs.runs.ModeRun.at.Given as goal

abbrev pub invariant-loop-item : goal.invariant-loop-item
invariant-loop-item l = record {
  past : l.page < l.to;
  within : l.to ≤ MOST_PAGES;
  none : (q : ℕ) → l.page ≤ q → q < l.to → mode (take l.item-index l.item-items) (Page q) ≡ None;
  edge : l.to < MOST_PAGES → list_any (λ item. (item.from == l.to) || (item.to == l.to)) (take l.item-index l.item-items) ≡ true;
}
