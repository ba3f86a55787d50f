-- The bytes of pages.
use Rattle.std.specs.Prelude.{ℕ, List, replicate}
use Rattle.lwc_types.specs.declared.page.TheConstants.{PAGE_BYTES}
use Rattle.lwc_types.specs.declared.page.PageValue.{PageValue}
use Rattle.lwc_types.specs.declared.page.PageValue.TheVariants.{Zero, Data}

-- this number of zero bytes
unfoldable pub zero_bytes : ℕ → List ℕ
zero_bytes count = replicate count 0

-- the bytes of a page of zeros
unfoldable pub zero_page : List ℕ
zero_page = zero_bytes PAGE_BYTES

-- the bytes that a page reads as
abbrev pub bytes_of : PageValue → List ℕ
bytes_of Zero = zero_page
bytes_of (Data tag bytes) = bytes
