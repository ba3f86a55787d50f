-- A page of a row once a piece is written to it.
use Rattle.std.specs.Prelude.{ℕ, List, Option, Some, slice_set, unwrap_or}
use Rattle.lwc_base.specs.Store.{Piece, bytes_after, stored_value}
use Rattle.lwc_types.specs.declared.name.Tag.{Tag}
use Rattle.lwc_types.specs.declared.page.PageValue.{PageValue}
use Rattle.lwc_types.specs.declared.page.PageValue.TheVariants.{Zero}
use Rattle.lwc_types.specs.Pages.{bytes_of}
use Rattle.cow_space.specs.Maps.{put_page, row_of}
use Rattle.cow_space.specs.Tags.{parts, row_tags}

-- what a page reads as: an absent one as zeros
abbrev pub read_value : List (ℕ → Option PageValue) → ℕ → ℕ → PageValue
read_value maps i p = unwrap_or (row_of maps i p) Zero

-- the value of a page once a piece is there: under the new tag if it parts, and else under its own
abbrev pub written_value : List (ℕ → Option PageValue) → ℕ → ℕ → Piece → Tag → PageValue
written_value maps i p piece tag =
    stored_value (parts (row_tags maps) (row_of maps i p)) tag (read_value maps i p)
    (bytes_after piece p (bytes_of (read_value maps i p)))

-- the rows once a piece is written to a page of one
abbrev pub write_page : List (ℕ → Option PageValue) → ℕ → ℕ → Piece → Tag → List (ℕ → Option PageValue)
write_page maps i p piece tag = slice_set maps i (put_page (row_of maps i) p (Some (written_value maps i p piece tag)))
