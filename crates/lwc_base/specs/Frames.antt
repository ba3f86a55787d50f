-- The frames that a world uses: one for each tag at a holder, which is a context's own cell or a group's key.
use Rattle.std.specs.Prelude.{ℕ, ◌++◌, Bool, true, List, [], ◌∷◌, Option, None, Some, count_by, nat_lt}
use Rattle.std.specs.List.{flat_map, range_with_len}
use Rattle.std.specs.Ordering.{is_eq}
use Rattle.std.specs.FinMap as fm
use Rattle.std.specs.FinSet as set
use Rattle.lwc_base.specs.declared.cell.Cell.{Cell}
use Rattle.lwc_base.specs.declared.cell.Cell.TheVariants.{Own, Common}
use Rattle.lwc_base.specs.World.{World, Context, Group}
use Rattle.lwc_types.specs.declared.key.Key.TheVariants.{Page}
use Rattle.lwc_types.specs.declared.name.Tag.{Tag}
use Rattle.lwc_types.specs.declared.page.PageValue.{PageValue}
use Rattle.lwc_types.specs.declared.page.PageValue.TheVariants.{Zero, Data}
use Rattle.lwc_types.specs.Names.{tag_cmp}

-- the tag of a value, if there is a value and it is not zeros
abbrev pub tag_of : Option PageValue → List Tag
tag_of None = []
tag_of (Some Zero) = []
tag_of (Some (Data tag bytes)) = tag ∷ []

-- the value of a page's cell where it is a holder, which the context's own is
abbrev pub own_value : Cell (Option PageValue) → Option PageValue
own_value (Own value) = value
own_value (Common g) = None

-- the tags of a context's own pages, one for each page that has one
unfoldable pub tags_of_context : ℕ → Context → List Tag
tags_of_context pages x = flat_map (λ p. tag_of (own_value (x.cell (Page p)))) (range_with_len 0 pages)

-- the tags of a group's pages, one for each page that has one
unfoldable pub tags_of_group : ℕ → Group → List Tag
tags_of_group pages x = flat_map (λ p. tag_of (x.value (Page p))) (range_with_len 0 pages)

-- the tags of all holders, one for each holder that has one
unfoldable pub tags : World → List Tag
tags w =
    flat_map (λ e. tags_of_context w.size.pages e.1) (fm.entries w.contexts)
    ++ flat_map (λ e. tags_of_group w.size.pages e.1) (fm.entries w.groups)

-- the number of different tags at holders
unfoldable pub used : World → ℕ
used w = set.len (set.from_list {R = tag_cmp} (tags w))

-- whether a tag is at more than one holder
abbrev pub is_shared_tag : World → Tag → Bool
is_shared_tag w tag = nat_lt 1 (count_by (λ t. is_eq (tag_cmp t tag)) (tags w))

-- whether a page parts when it is stored to, and takes a new tag: it is zeros, or its tag is at other holders
-- too
unfoldable pub is_parting : World → PageValue → Bool
is_parting w Zero = true
is_parting w (Data tag bytes) = is_shared_tag w tag
