-- A page once a piece is written to it.
use Rattle.std.specs.Prelude.{ℕ, List, Some, slice_set, unwrap_or}
use Rattle.lwc_base.specs.declared.cell.Cell.TheVariants as cell
use Rattle.lwc_base.specs.Store.{Piece, bytes_after, stored_value}
use Rattle.lwc_types.specs.declared.name.Tag.{Tag}
use Rattle.lwc_types.specs.declared.page.PageValue.{PageValue}
use Rattle.lwc_types.specs.declared.page.PageValue.TheVariants.{Zero}
use Rattle.lwc_types.specs.Pages.{bytes_of}
use Rattle.cow_space.specs.Maps.{put_page}
use Rattle.cow_space.specs.Cells.{Place, place_of}
use Rattle.cow_space.specs.Tags.{is_parting, own_values}

-- what a page of a place reads as
abbrev pub page_value : List Place → ℕ → ℕ → PageValue
page_value cells i p = unwrap_or (own_values (place_of cells i) p) Zero

-- the value of a page once a piece is there: under the new tag if it parts, and else under its own
abbrev pub written_value : List Place → ℕ → ℕ → Piece → Tag → PageValue
written_value cells i p piece tag =
    stored_value (is_parting cells i p) tag (page_value cells i p)
    (bytes_after piece p (bytes_of (page_value cells i p)))

-- the places once a piece is written to a page of one
abbrev pub write_page : List Place → ℕ → ℕ → Piece → Tag → List Place
write_page cells i p piece tag =
    slice_set cells i (put_page (place_of cells i) p (cell.Own (Some (written_value cells i p piece tag))))
