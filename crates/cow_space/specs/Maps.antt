-- Maps from pages to values, one for each row.
use Rattle.std.specs.Prelude.{ℕ, ◌==◌, ◌&&◌, if◌then◌else◌, List, Option, None, Some, nat_le, nat_lt, slice_index_or}
use Rattle.std.specs.Prelude.{slice_set}
use Rattle.lwc_types.specs.declared.page.PageValue.{PageValue}
use Rattle.lwc_types.specs.declared.page.PageValue.TheVariants.{Zero, Data}

-- the map without pages
abbrev pub no_pages : ℕ → Option PageValue
no_pages p = None

-- the map of a row
abbrev pub row_of : List (ℕ → Option PageValue) → ℕ → ℕ → Option PageValue
row_of maps i = slice_index_or maps i no_pages

-- the bytes of a value, if it has any
abbrev pub data_of : Option PageValue → Option (List ℕ)
data_of None = None
data_of (Some Zero) = None
data_of (Some (Data tag bytes)) = Some bytes

-- a map with something else at a page
abbrev pub put_page : {A : Type 0} → (ℕ → A) → ℕ → A → ℕ → A
put_page map p x q = if q == p then x else map q

-- a map with the pages of another from one page up to and without another
abbrev pub put_range : {A : Type 0} → (ℕ → A) → ℕ → ℕ → (ℕ → A) → ℕ → A
put_range map from to other q = if nat_le from q && nat_lt q to then other q else map q

-- rows of which one has a range of pages of another
abbrev pub share_range : List (ℕ → Option PageValue) → ℕ → ℕ → ℕ → ℕ → List (ℕ → Option PageValue)
share_range maps to from first end = slice_set maps to (put_range (row_of maps to) first end (row_of maps from))
