-- Pages that have one mode.
use Rattle.std.specs.Prelude.{◌≡◌, ℕ, ◌<◌, ◌≤◌, ◌==◌, ◌||◌, List, true}
use Rattle.std.specs.List.{list_any}
use Rattle.lwc_base.specs.declared.item.Item.{Item}
use Rattle.lwc_base.specs.Modes.{mode}
use Rattle.lwc_types.specs.declared.key.Key.TheVariants.{Page}
use Rattle.lwc_types.specs.declared.limits.TheConstants.{MOST_PAGES}
use Rattle.item_modes.specs.declared.runs.ModeRun.{ModeRun}

-- the pages from one on have a mode, up to a later page where an item begins or ends
pub record IsModeRun (items : List Item) (p : ℕ) (run : ModeRun) : Type 0 where
  pub alike : (q : ℕ) → p ≤ q → q < run.to → mode items (Page q) ≡ run.mode
  pub within : run.to ≤ MOST_PAGES
  pub edge : p < run.to → run.to < MOST_PAGES →
      list_any (λ item. (item.from == run.to) || (item.to == run.to)) items ≡ true
