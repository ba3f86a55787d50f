-- The bytes of a context's memory.
use Rattle.std.specs.Prelude.{ℕ, ◌+◌, ◌-◌, ◌*◌, ◌/◌, ◌%◌, ◌==◌, if◌then◌else◌, Bool, List, [], Option, None, Some}
use Rattle.std.specs.Prelude.{map, is_some, nat_le, slice_index}
use Rattle.std.specs.List.{range_with_len, list_all}
use Rattle.std.specs.Option.{option_map_or}
use Rattle.lwc_base.specs.Cells.{page_at}
use Rattle.lwc_base.specs.World.{World}
use Rattle.lwc_types.specs.declared.name.Name.{Name}
use Rattle.lwc_types.specs.declared.page.TheConstants.{PAGE_BYTES}
use Rattle.lwc_types.specs.Pages.{bytes_of}

-- the pages that a number of bytes from an address touch, in rising order; no bytes touch no page
unfoldable pub touched : ℕ → ℕ → List ℕ
touched at count =
    if count == 0 then []
    else range_with_len (at / PAGE_BYTES) ((at + count - 1) / PAGE_BYTES + 1 - at / PAGE_BYTES)

-- whether each page is present that a number of bytes from an address touch
unfoldable pub is_present : World → Name → ℕ → ℕ → Bool
is_present w c at count = list_all (λ p. is_some (page_at w c p)) (touched at count)

-- the byte at an address
unfoldable pub byte_at : World → Name → ℕ → ℕ
byte_at w c at =
    option_map_or (λ value. slice_index (bytes_of value) (at % PAGE_BYTES)) (page_at w c (at / PAGE_BYTES)) 0

-- a number of bytes from an address, where each page that they touch is present
unfoldable pub load : World → Name → ℕ → ℕ → Option (List ℕ)
load w c at count =
    if is_present w c at count then Some (map (byte_at w c) (range_with_len at count)) else None

-- a number of bytes from a guest's address, if none is past the last page or absent; no bytes need no address
unfoldable pub bytes_for : World → Name → ℕ → ℕ → Option (List ℕ)
bytes_for w c at count =
    if count == 0 then Some []
    else (if nat_le (at + count) (w.size.pages * PAGE_BYTES) then load w c at count else None)
