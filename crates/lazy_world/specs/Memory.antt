-- The pages of a context by its cells: what is under them, and the places that have it.
use Rattle.std.specs.Prelude.{ℕ, ◌+◌, ◌/◌, ◌%◌, Option, None, Some, slice_index}
use Rattle.std.specs.FinMap as fm
use Rattle.std.specs.Option.{option_map, option_map_or}
use Rattle.lwc_base.specs.declared.cell.Cell.{Cell}
use Rattle.lwc_base.specs.declared.cell.Cell.TheVariants.{Own, Common}
use Rattle.lwc_base.specs.Cells.{value_of}
use Rattle.lwc_base.specs.World.{World}
use Rattle.lwc_types.specs.declared.key.Key.TheVariants.{Page}
use Rattle.lwc_types.specs.declared.page.PageValue.{PageValue}
use Rattle.lwc_types.specs.declared.page.TheConstants.{PAGE_BYTES}
use Rattle.lwc_types.specs.Pages.{bytes_of}
use Rattle.lazy_world.specs.Cells.{Row}
use Rattle.lazy_world.specs.States.{Parts}

-- what is under a page of a context with these cells
abbrev pub page_in : World → Row → ℕ → Option PageValue
page_in w row p = value_of w (Page p) (row (Page p))

-- the byte at an address of a context with these cells
abbrev pub byte_in : World → Row → ℕ → ℕ
byte_in w row at =
    option_map_or (λ value. slice_index (bytes_of value) (at % PAGE_BYTES)) (page_in w row (at / PAGE_BYTES)) 0

-- the place that has what a cell at a place stands for: that place if the page is there, or the live group's
abbrev pub holder_of : Parts → ℕ → Cell (Option PageValue) → Option ℕ
holder_of s i (Own None) = None
holder_of s i (Own (Some value)) = Some i
holder_of s i (Common g) = option_map (λ j. s.size.contexts + j) (fm.get s.groups.map g)

-- the place that has what is under a page of the context at a place
abbrev pub holder : Parts → ℕ → ℕ → Option ℕ
holder s i p = holder_of s i (s.rows i (Page p))
