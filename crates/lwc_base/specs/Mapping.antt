-- Pages that are mapped and unmapped.
use Rattle.std.specs.Prelude.{ℕ, ◌&&◌, if◌then◌else◌, Bool, Option, None, Some, nat_le, nat_lt}
use Rattle.lwc_base.specs.declared.cell.Cell.{Cell}
use Rattle.lwc_base.specs.declared.cell.Cell.TheVariants.{Own}
use Rattle.lwc_base.specs.Keys.{ValueOf}
use Rattle.lwc_base.specs.World.{World, Context, change_context}
use Rattle.lwc_types.specs.declared.key.Key.{Key}
use Rattle.lwc_types.specs.declared.key.Key.TheVariants.{Page}
use Rattle.lwc_types.specs.declared.name.Name.{Name}
use Rattle.lwc_types.specs.declared.page.PageValue.{PageValue}
use Rattle.lwc_types.specs.declared.page.PageValue.TheVariants.{Zero}
use Rattle.lwc_types.specs.declared.right.Right.{Right}
use Rattle.lwc_types.specs.declared.right.Right.TheVariants.{Write}

-- the cells of a context with another cell under each page of a range
abbrev pub on_pages : ℕ → ℕ → Cell (Option PageValue) → ((k : Key) → Cell (ValueOf k)) →
    (k : Key) → Cell (ValueOf k)
on_pages from to cell old (Page p) = if nat_le from p && nat_lt p to then cell else old (Page p)
on_pages from to cell old k = old k

-- the rights of pages with Write for each page of a range
abbrev pub writable_in : ℕ → ℕ → (ℕ → Right) → ℕ → Right
writable_in from to old p = if nat_le from p && nat_lt p to then Write else old p

-- a context in which each page of a range has a value of its own or is absent, and has the right Write,
-- whatever it was
abbrev pub with_pages : ℕ → ℕ → Option PageValue → Context → Context
with_pages from to value x =
    record x { cell = on_pages from to (Own value) x.cell; right = writable_in from to x.right }

-- a context in which each page of a range is a page of zeros of its own, whatever it was
abbrev pub with_zeros : ℕ → ℕ → Context → Context
with_zeros from to = with_pages from to (Some Zero)

-- a context in which each page of a range is absent, whatever it was
abbrev pub without_pages : ℕ → ℕ → Context → Context
without_pages from to = with_pages from to None

-- the pages from one up to and without another become pages of zeros of the context's own
unfoldable pub map_pages : World → Name → ℕ → ℕ → World
map_pages w c from to = change_context w c (with_zeros from to)

-- the pages from one up to and without another become absent
unfoldable pub unmap_pages : World → Name → ℕ → ℕ → World
unmap_pages w c from to = change_context w c (without_pages from to)

-- the pages of a range become present or absent
abbrev pub mapped_or_not : World → Name → ℕ → ℕ → Bool → World
mapped_or_not w c from to present = if present then map_pages w c from to else unmap_pages w c from to
