-- The row of a place once page runs of its pages have changed.
use Rattle.std.specs.Prelude.{ℕ, List, Option, None, Some}
use Rattle.lwc_types.specs.declared.page.PageValue.{PageValue}
use Rattle.cow_space.specs.Maps.{row_of}
use Rattle.cow_space.specs.declared.page_runs.Origin.{Origin}
use Rattle.cow_space.specs.declared.page_runs.Origin.TheVariants.{Absent, Zeros, Common, CopyOf}
use Rattle.cow_space.specs.declared.page_runs.PageRun.{PageRun}
use Rattle.cow_space.specs.Changes.{page_run_at}

-- the value that a row gets of an origin: only a copy brings one
abbrev pub origin_value : List (ℕ → Option PageValue) → Origin → ℕ → Option PageValue
origin_value maps Absent p = None
origin_value maps Zeros p = None
origin_value maps (Common g) p = None
origin_value maps (CopyOf j) p = row_of maps j p

-- the value of a page by the page run that was found, and the one before where none was
abbrev pub value_by : List (ℕ → Option PageValue) → ℕ → Option PageValue → Option PageRun → Option PageValue
value_by maps p before None = before
value_by maps p before (Some page_run) = origin_value maps page_run.origin p

-- a row after page runs
unfoldable pub changed_row : List (ℕ → Option PageValue) → ℕ → List PageRun → ℕ → Option PageValue
changed_row maps i page_runs p = value_by maps p (row_of maps i p) (page_run_at page_runs p)
