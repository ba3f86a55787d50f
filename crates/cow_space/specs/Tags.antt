-- The tags of rows and of places, the frames that they use, and the pages that part.
use Rattle.std.specs.Prelude.{◌≢◌, ℕ, Bool, true, List, Option, None, Some, if◌then◌else◌, count_by, nat_lt}
use Rattle.std.specs.List.{flat_map, range_with_len}
use Rattle.std.specs.Ordering.{is_eq}
use Rattle.std.specs.FinSet as set
use Rattle.lwc_base.specs.declared.cell.Cell.TheVariants as cell
use Rattle.lwc_base.specs.Frames.{own_value, tag_of}
use Rattle.lwc_types.specs.declared.name.Tag.{Tag}
use Rattle.lwc_types.specs.declared.page.PageValue.{PageValue}
use Rattle.lwc_types.specs.declared.page.PageValue.TheVariants.{Zero, Data}
use Rattle.lwc_types.specs.Names.{tag_cmp}
use Rattle.page_tree.specs.declared.store.TheConstants.{PAGES}
use Rattle.cow_space.specs.Cells.{Place, place_of}

-- how often a tag is in a list
unfoldable pub times : Tag → List Tag → ℕ
times tag tags = count_by (λ t. is_eq (tag_cmp t tag)) tags

-- how many different tags are in a list
unfoldable pub different : List Tag → ℕ
different tags = set.len (set.from_list {R = tag_cmp} tags)

-- whether a value parts when its page is written, and takes a new tag: it is absent or zeros, or its tag is
-- in the list of the tags of all pages more than once
abbrev pub parts : List Tag → Option PageValue → Bool
parts tags None = true
parts tags (Some Zero) = true
parts tags (Some (Data tag bytes)) = nat_lt 1 (times tag tags)

-- the tags of a map, one for each page that has one
unfoldable pub tags_of_map : (ℕ → Option PageValue) → List Tag
tags_of_map map = flat_map (λ p. tag_of (map p)) (range_with_len 0 PAGES)

-- the tags of all rows
unfoldable pub row_tags : List (ℕ → Option PageValue) → List Tag
row_tags maps = flat_map tags_of_map maps

-- the value of each page that is a place's own
abbrev pub own_values : Place → ℕ → Option PageValue
own_values place p = own_value (place p)

-- the tags of a place, one for each page that has one
unfoldable pub tags_of_place : Place → List Tag
tags_of_place place = tags_of_map (own_values place)

-- the tags of all places
unfoldable pub tags : List Place → List Tag
tags cells = flat_map tags_of_place cells

-- how many different tags the places have, which is how many frames they use
unfoldable pub used : List Place → ℕ
used cells = different (tags cells)

-- whether a page of a place parts when it is written: it is zeros, or its tag is at another page too
unfoldable pub is_parting : List Place → ℕ → ℕ → Bool
is_parting cells i p = parts (tags cells) (own_values (place_of cells i) p)

-- how many frames a write to a page takes
abbrev pub taken_by : List Place → ℕ → ℕ → ℕ
taken_by cells i p = if is_parting cells i p then 1 else 0

-- no place has the tag at any page
abbrev pub IsNewTag : List Place → Tag → Type 0
IsNewTag cells tag = (i p : ℕ) (bytes : List ℕ) → place_of cells i p ≢ cell.Own (Some (Data tag bytes))
