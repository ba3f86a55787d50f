-- Which frames have the bytes of pages of places.
use Rattle.std.specs.Prelude.{◌≡◌, ◌<◌, ℕ, Bool, Option, None, Some, false, length, true}
use Rattle.lwc_base.specs.Rights.{may_write}
use Rattle.range_map.specs.declared.segment.SegmentKind.{SegmentKind}
use Rattle.range_map.specs.declared.segment.SegmentKind.TheVariants.{Common, Own}
use Rattle.range_map.specs.Kinds.{kind_at}
use Rattle.cow_space.specs.declared.cells.PageCells.{PageCells}
use Rattle.cow_space.specs.Cells.{place_rights, segments_of}
use Rattle.cow_space.specs.RowFrames.{LeadsAlone, LeadsTo}
use Rattle.cow_space.specs.Seen.{cells}

-- whether a kind is that of present pages that are the place's own
abbrev pub is_own_kind : Option SegmentKind → Bool
is_own_kind None = false
is_own_kind (Some Own) = true
is_own_kind (Some (Common g)) = false

-- a page is the place's own, and this frame has its bytes
pub record HasFrame (w : PageCells) (i p f : ℕ) : Type 0 where
  pub inside : i < length (cells w)
  pub own : is_own_kind (kind_at (segments_of w.kinds i) p) ≡ true
  pub row : LeadsTo w.rows i p f

-- besides, it may be stored to, and no other page has its bytes there
pub record HasLoneFrame (w : PageCells) (i p f : ℕ) : Type 0 where
  pub has : HasFrame w i p f
  pub may : may_write (place_rights (segments_of w.kinds i) p) ≡ true
  pub row : LeadsAlone w.rows i p f
