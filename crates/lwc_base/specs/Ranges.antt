-- The ranges of a context: its longest runs of present pages of one right that are all its own, or all
-- common of one group.
use Rattle.std.specs.Prelude.{ℕ, zero, suc, ◌&&◌, Bool, true, false, not, Option, Some, count_by, is_some}
use Rattle.std.specs.List.{range_with_len}
use Rattle.std.specs.Ordering.{is_eq}
use Rattle.lwc_base.specs.declared.cell.Cell.{Cell}
use Rattle.lwc_base.specs.declared.cell.Cell.TheVariants.{Own, Common}
use Rattle.lwc_base.specs.Rights.{same_right}
use Rattle.lwc_base.specs.World.{World, Context, context}
use Rattle.lwc_types.specs.declared.key.Key.TheVariants.{Page}
use Rattle.lwc_types.specs.declared.page.PageValue.{PageValue}
use Rattle.lwc_types.specs.declared.name.Name.{Name}
use Rattle.lwc_types.specs.Names.{name_cmp}

-- whether two cells of pages are of one kind: present and the context's own, or common of one group
abbrev pub are_of_one_kind : Cell (Option PageValue) → Cell (Option PageValue) → Bool
are_of_one_kind (Own (Some a)) (Own (Some b)) = true
are_of_one_kind (Common g) (Common h) = is_eq (name_cmp g h)
are_of_one_kind _ _ = false

-- whether a cell of a page is present
abbrev pub is_page : Cell (Option PageValue) → Bool
is_page (Own value) = is_some value
is_page (Common g) = true

-- whether a context has a page
abbrev pub has_page : Context → ℕ → Bool
has_page x p = is_page (x.cell (Page p))

-- whether two pages of a context can be in one range
abbrev pub are_alike : Context → ℕ → ℕ → Bool
are_alike x p q = are_of_one_kind (x.cell (Page p)) (x.cell (Page q)) && same_right (x.right p) (x.right q)

-- whether a page of a context continues the range of the page before it; no page is before the first
abbrev pub continues_range : Context → ℕ → Bool
continues_range x zero = false
continues_range x (suc p) = are_alike x p (suc p)

-- whether a range begins at a page: the page is present, and does not continue the range before it
unfoldable pub begins_range : Context → ℕ → Bool
begins_range x p = has_page x p && not (continues_range x p)

-- the number of ranges of a context with this number of pages
unfoldable pub ranges : ℕ → Context → ℕ
ranges pages x = count_by (begins_range x) (range_with_len 0 pages)

-- the number of ranges of a context of the world
unfoldable pub ranges_of : World → Name → ℕ
ranges_of w c = ranges w.size.pages (context w c)
