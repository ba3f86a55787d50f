-- The pages of a context, as those of an image.
use Rattle.std.specs.Prelude.{ℕ, ◌*◌, ◌&&◌, Bool, List, Option, length, nat_le}
use Rattle.std.specs.List.{filter_map, range_with_len}
use Rattle.std.specs.Option.{option_map}
use Rattle.guest_image.specs.Limits.{page_numbers}
use Rattle.guest_image.specs.Numbers.{ranges}
use Rattle.guest_image.specs.declared.image.PageImage.{PageImage}
use Rattle.lwc_base.specs.Memory.{load}
use Rattle.lwc_base.specs.World.{World}
use Rattle.lwc_types.specs.declared.limits.TheConstants.{MOST_RANGES}
use Rattle.lwc_types.specs.declared.name.Name.{Name}
use Rattle.lwc_types.specs.declared.page.TheConstants.{PAGE_BYTES}

-- a page of these bytes
abbrev pub new_page : ℕ → List ℕ → PageImage
new_page p bytes = record { number = p; bytes = bytes }

-- the page of a number in a context, if it is present
abbrev pub page_at : World → Name → ℕ → Option PageImage
page_at w c p = option_map (new_page p) (load w c (p * PAGE_BYTES) PAGE_BYTES)

-- the pages of a context, in the order of their numbers
unfoldable pub pages_in : World → Name → List PageImage
pages_in w c = filter_map (page_at w c) (range_with_len 0 w.size.pages)

-- whether there are no more pages than frames, in no more ranges than an image may have
abbrev pub are_fitting : ℕ → List PageImage → Bool
are_fitting frames pages =
    nat_le (length pages) frames && nat_le (ranges (page_numbers pages)) MOST_RANGES
