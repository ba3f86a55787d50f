-- The store of a piece, page by page.
use Rattle.std.specs.Prelude.{ℕ, ◌+◌, if◌then◌else◌, Bool, List, count_by}
use Rattle.lwc_base.specs.Frames.{is_parting}
use Rattle.lwc_base.specs.Store.{Piece, bytes_after, page_value_at, stored_pages, put_pages, stored_value}
use Rattle.lwc_base.specs.World.{World, change_counters}
use Rattle.lwc_types.specs.declared.name.Name.{Name}
use Rattle.lwc_types.specs.declared.page.PageValue.{PageValue}
use Rattle.lwc_types.specs.Pages.{bytes_of}

-- whether a page of a context parts when it is stored to
abbrev pub parts_at : World → Name → ℕ → Bool
parts_at w c p = is_parting w (page_value_at w c p)

-- how many frames a store to a page takes
abbrev pub taken_at : World → Name → ℕ → ℕ
taken_at w c p = if parts_at w c p then 1 else 0

-- the value of a page once a piece is there, under the job's next tag if it parts
abbrev pub value_after : World → Name → ℕ → Piece → ℕ → PageValue
value_after w c job piece p =
    stored_value (parts_at w c p) (record { job = job; k = (w.next job).tags }) (page_value_at w c p)
    (bytes_after piece p (bytes_of (page_value_at w c p)))

-- the world once a piece is on these pages, under the job's next tags
unfoldable pub store_pages : World → Name → ℕ → Piece → List ℕ → World
store_pages w c job piece ps =
    change_counters (put_pages w c (stored_pages w c job piece (w.next job).tags ps)) job
    (λ n. record n { tags = n.tags + count_by (parts_at w c) ps })
