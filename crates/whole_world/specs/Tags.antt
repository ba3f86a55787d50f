-- The tags of rows, as lists, and what is asked of such a list.
use Rattle.std.specs.Prelude.{ℕ, ◌+◌, ◌++◌, Bool, List, Option, count_by, length}
use Rattle.std.specs.List.{flat_map, list_any}
use Rattle.std.specs.Ordering.{is_eq}
use Rattle.std.specs.FinSet as set
use Rattle.lwc_base.specs.Frames.{tag_of, own_value}
use Rattle.lwc_types.specs.declared.name.Name.{Name}
use Rattle.lwc_types.specs.declared.name.Tag.{Tag}
use Rattle.lwc_types.specs.declared.page.PageValue.{PageValue}
use Rattle.lwc_types.specs.Names.{tag_cmp}
use Rattle.whole_world.specs.declared.context_row.ContextRow.{ContextRow}
use Rattle.whole_world.specs.declared.group_row.GroupRow.{GroupRow}
use Rattle.whole_world.specs.declared.tags.Row.{Row}
use Rattle.whole_world.specs.declared.tags.Row.TheVariants.{Context, Group}
use Rattle.whole_world.specs.declared.tags.Rows.{Rows}

-- the tags of pages, each of which is the holder of a value or of none
unfoldable pub page_tags : {P : Type 0} → (P → Option PageValue) → List P → List Tag
page_tags value pages = flat_map (λ page. tag_of (value page)) pages

-- the tags of rows of contexts and of groups
unfoldable pub tags_of_rows : List (Name × ContextRow) → List (Name × GroupRow) → List Tag
tags_of_rows contexts groups =
    flat_map (λ row. page_tags own_value row.1.pages.items) contexts
    ++ flat_map (λ row. page_tags (λ v. v) row.1.pages.items) groups

-- the tags of a row
abbrev pub row_tags : Row → List Tag
row_tags (Context row) = page_tags own_value row.now.1.pages.items
row_tags (Group row) = page_tags (λ v. v) row.now.1.pages.items

-- the tags of some rows
abbrev pub rows_tags : Rows → List Tag
rows_tags rows = tags_of_rows rows.contexts.now rows.groups.now

-- the number of rows
abbrev pub rows_count : Rows → ℕ
rows_count rows = length rows.contexts.now + length rows.groups.now

-- whether a tag is in a list
unfoldable pub has_tag : Tag → List Tag → Bool
has_tag tag tags = list_any (λ t. is_eq (tag_cmp t tag)) tags

-- how often a tag is in a list
unfoldable pub times : Tag → List Tag → ℕ
times tag tags = count_by (λ t. is_eq (tag_cmp t tag)) tags

-- how many different tags are in a list
unfoldable pub different : List Tag → ℕ
different tags = set.len (set.from_list {R = tag_cmp} tags)
