-- The store of bytes: which pages part, when there are too few frames, and what the pages are afterwards.
use Rattle.std.specs.Prelude.{ℕ, ◌+◌, ◌-◌, ◌*◌, ◌&&◌, if◌then◌else◌, Bool, not, List, [], ◌∷◌, count_by, length, map}
use Rattle.std.specs.Prelude.{nat_le, nat_lt, slice_index, unwrap_or}
use Rattle.std.specs.List.{range_with_len}
use Rattle.lwc_base.specs.Cells.{page_at, put_page}
use Rattle.lwc_base.specs.Frames.{is_parting, used}
use Rattle.lwc_base.specs.Memory.{touched, is_present}
use Rattle.lwc_base.specs.Rights.{is_writable}
use Rattle.lwc_base.specs.World.{World, change_counters}
use Rattle.lwc_types.specs.declared.name.Name.{Name}
use Rattle.lwc_types.specs.declared.name.Tag.{Tag}
use Rattle.lwc_types.specs.declared.page.PageValue.{PageValue}
use Rattle.lwc_types.specs.declared.page.PageValue.TheVariants.{Zero, Data}
use Rattle.lwc_types.specs.declared.page.TheConstants.{PAGE_BYTES}
use Rattle.lwc_types.specs.Pages.{bytes_of}

-- bytes that are stored: what they are, and the address of the first
pub record Piece : Type 0 where
  pub at : ℕ
  pub bytes : List ℕ

-- the byte at an address once a piece is there: the piece's where it covers the address, else the old one
abbrev pub byte_after : Piece → ℕ → ℕ → ℕ
byte_after piece at old =
    if nat_le piece.at at && nat_lt at (piece.at + length piece.bytes)
    then slice_index piece.bytes (at - piece.at) else old

-- the bytes of a page once a piece is there
unfoldable pub bytes_after : Piece → ℕ → List ℕ → List ℕ
bytes_after piece p old =
    map (λ i. byte_after piece (p * PAGE_BYTES + i) (slice_index old i)) (range_with_len 0 (length old))

-- what is under a page of a context that is present
abbrev pub page_value_at : World → Name → ℕ → PageValue
page_value_at w c p = unwrap_or (page_at w c p) Zero

-- new bytes of a page: under a new tag where it parts, and else under its own
abbrev pub stored_value : Bool → Tag → PageValue → List ℕ → PageValue
stored_value parting new Zero bytes = Data new bytes
stored_value parting new (Data tag old) bytes = Data (if parting then new else tag) bytes

-- the new value of each page that is touched; those that part take the job's tags from number k on, in order
abbrev pub stored_pages : World → Name → ℕ → Piece → ℕ → List ℕ → List (ℕ × PageValue)
stored_pages w c job piece k [] = []
stored_pages w c job piece k (p ∷ ps) =
    let value = page_value_at w c p in
    let parting = is_parting w value in
    (p, stored_value parting (record { job = job; k = k }) value (bytes_after piece p (bytes_of value)))
    ∷ stored_pages w c job piece (if parting then k + 1 else k) ps

-- pages of a context get new values, one after another
abbrev pub put_pages : World → Name → List (ℕ × PageValue) → World
put_pages w c [] = w
put_pages w c (v ∷ vs) = put_pages (put_page w c v.0 v.1) c vs

-- how a store ends: a touched page is absent or has the right Read, there are too few frames, or it is done
pub data Stored : Type 0 where
  Absent : Stored
  ReadOnly : Stored
  Full : Stored
  Done : World → Stored

-- the number of pages that part, of those that a piece touches
unfoldable pub parting_count : World → Name → Piece → ℕ
parting_count w c piece =
    count_by (λ p. is_parting w (page_value_at w c p)) (touched piece.at (length piece.bytes))

-- the world once a piece is there: touched pages have new values, and the job a tag more for each that parted
unfoldable pub after_store : World → Name → ℕ → Piece → World
after_store w c job piece =
    change_counters
    (put_pages w c (stored_pages w c job piece (w.next job).tags (touched piece.at (length piece.bytes)))) job
    (λ n. record n { tags = n.tags + parting_count w c piece })

-- the store of a piece in a context, for a job
unfoldable pub store : World → Name → ℕ → Piece → Stored
store w c job piece =
    if not (is_present w c piece.at (length piece.bytes)) then Absent
    else (if not (is_writable w c piece.at (length piece.bytes)) then ReadOnly
    else (if nat_lt w.size.frames (used w + parting_count w c piece) then Full
    else Done (after_store w c job piece)))
