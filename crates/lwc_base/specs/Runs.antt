-- Contexts whose present pages are one run.
use Rattle.std.specs.Prelude.{◌≡◌, ℕ, ◌<◌, ◌≤◌, None, true}
use Rattle.lwc_base.specs.declared.cell.Cell.TheVariants.{Own}
use Rattle.lwc_base.specs.Ranges.{continues_range, has_page}
use Rattle.lwc_base.specs.World.{Context}
use Rattle.lwc_types.specs.declared.key.Key.TheVariants.{Page}

-- just the pages from one up to and without another are present, and they are all of one range
pub record IsOneRun (pages from to : ℕ) (x : Context) : Type 0 where
  pub some : from < to
  pub within : to ≤ pages
  pub before : (p : ℕ) → p < from → x.cell (Page p) ≡ Own None
  pub inside : (p : ℕ) → from ≤ p → p < to → has_page x p ≡ true
  pub after : (p : ℕ) → to ≤ p → p < pages → x.cell (Page p) ≡ Own None
  pub joined : (p : ℕ) → from < p → p < to → continues_range x p ≡ true
