-- What a store that is done has found and leaves, and the pages that it touches.
use Rattle.std.proofs.Common.{◌≡◌, ℕ, ◌+◌, ◌-◌, ◌*◌, ◌/◌, ◌<◌, ◌≤◌, true, cond, eqb, Option, Some, List, length, arith}
use Rattle.std.specs.Prelude.{is_some, slice_index, unwrap_or}
use Rattle.std.specs.List.{range_with_len}
use Rattle.std.proofs.lemmas.Bool.Decides.{nat_tests}
use Rattle.std.proofs.lemmas.List.{length-replicate}
use Rattle.std.proofs.lemmas.List.FromFn.{length-map-range_with_len}
use Rattle.lwc_base.specs.Frames.{used}
use Rattle.lwc_base.specs.Memory.{touched, is_present}
use Rattle.lwc_base.specs.Rights.{is_writable}
use Rattle.lwc_base.specs.Store.{Piece, Done, after_store, byte_after, bytes_after, parting_count, store}
use Rattle.lwc_base.specs.World.{World}
use Rattle.lwc_types.specs.declared.name.Name.{Name}
use Rattle.lwc_types.specs.declared.page.PageValue.{PageValue}
use Rattle.lwc_types.specs.declared.page.PageValue.TheVariants.{Zero}
use Rattle.lwc_types.specs.declared.page.TheConstants.{PAGE_BYTES}
use Rattle.lwc_types.specs.Pages.{zero_bytes, zero_page}

-- what a store that is done has found, and what it leaves
pub record IsDone (w : World) (c : Name) (job : ℕ) (piece : Piece) (v : World) : Type 0 where
  pub after : v ≡ after_store w c job piece
  pub present : is_present w c piece.at (length piece.bytes) ≡ true
  pub writable : is_writable w c piece.at (length piece.bytes) ≡ true
  pub room : used w + parting_count w c piece ≤ w.size.frames

pub is_done : (w : World) (c : Name) (job : ℕ) (piece : Piece) (v : World) → store w c job piece ≡ Done v → IsDone w c job piece v
unfolding store
is_done w c job piece v done = record { after = grind arith; present = grind arith; writable = grind arith; room = grind (arith, nat_tests) }

pub length-zero_page : length zero_page ≡ PAGE_BYTES
unfolding zero_page zero_bytes
length-zero_page = length-replicate {A = ℕ} PAGE_BYTES 0

-- the bytes of a page are as many as before
pub length-bytes_after : (piece : Piece) (p : ℕ) (old : List ℕ) → length (bytes_after piece p old) ≡ length old
unfolding bytes_after
length-bytes_after piece p old = length-map-range_with_len (λ i. byte_after piece (p * PAGE_BYTES + i) (slice_index old i)) 0 (length old)

-- a page that is there has a value
pub present_value : (o : Option PageValue) → is_some o ≡ true → o ≡ Some (unwrap_or o Zero)
present_value o is = grind arith

-- the first page that bytes touch, and the number of these pages
abbrev pub first_touched : ℕ → ℕ
first_touched at = at / PAGE_BYTES

unfoldable pub touched_count : ℕ → ℕ → ℕ
touched_count at count = cond (eqb count 0) 0 ((at + count - 1) / PAGE_BYTES + 1 - at / PAGE_BYTES)

pub touched-range : (at count : ℕ) → touched at count ≡ range_with_len (first_touched at) (touched_count at count)
unfolding touched touched_count
touched-range at count = grind arith

-- the page of each of these bytes is one of them
pub touched-covers : (at count q : ℕ) → at ≤ q → q < at + count → (first_touched at ≤ q / PAGE_BYTES) × (q / PAGE_BYTES < first_touched at + touched_count at count)
unfolding touched_count
touched-covers at count q low high = (omega arith, grind (arith, nat_tests))
