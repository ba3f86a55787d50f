-- A frame that is taken and filled.
use Rattle.std.specs.Prelude.{◌≡◌, ◌≢◌, ℕ, ◌<◌, List, length}
use Rattle.frame_pool.specs.Frame.{Frame, frame_at, frame_count, frame_bytes}
use Rattle.lwc_types.specs.declared.name.Tag.{Tag}
use Rattle.lwc_types.specs.Pages.{zero_page}
use Rattle.page_tree.specs.declared.cell.PageCell.{PageCell}
use Rattle.page_tree.specs.declared.cell.PageCell.TheVariants.{Absent, Zero}
use Rattle.page_tree.specs.declared.cell.PageCell.TheVariants as cell

-- the bytes that a cell reads as
abbrev pub cell_bytes : List Frame → PageCell → List ℕ
cell_bytes frames Absent = zero_page
cell_bytes frames Zero = zero_page
cell_bytes frames (cell.Frame f) = frame_bytes frames f.n

-- a free frame is held once now, under that stamp and with those bytes, and all others are as they were
pub record Takes (old new : List Frame) (n : ℕ) (tag : Tag) (bytes : List ℕ) : Type 0 where
  pub size : length new ≡ length old
  pub inside : n < length old
  pub was_free : frame_count old n ≡ 0
  pub here : frame_at new n ≡ record { count = 1; stamp = tag; bytes = bytes }
  pub others : (g : ℕ) → g ≢ n → frame_at new g ≡ frame_at old g
