-- Laws of the pages of places.
use Rattle.std.specs.Prelude.{◌≡◌, ◌≢◌, ℕ, ◌+◌, ◌<◌, All, List, Some, length, slice_set}
use Rattle.lwc_base.specs.declared.cell.Cell.TheVariants as cell
use Rattle.lwc_base.specs.Store.{Piece}
use Rattle.lwc_types.specs.declared.limits.TheConstants.{MOST_PAGES}
use Rattle.lwc_types.specs.declared.name.Tag.{Tag}
use Rattle.lwc_types.specs.declared.page.PageValue.TheVariants.{Data}
use Rattle.cow_space.specs.declared.page_runs.PageRun.{PageRun}
use Rattle.cow_space.specs.Changes.{IsPageRun, changed_place}
use Rattle.cow_space.specs.Cells.{IsOwnPage, Place, kinds_of, no_pages, place_of}
use Rattle.cow_space.specs.declared.cells.PageCells.{PageCells}
use Rattle.cow_space.specs.Seen.{HoldsNoNode, cells, frames_of, free_frames}
use Rattle.cow_space.specs.Tags.{IsNewTag, is_parting, taken_by, used}
use Rattle.cow_space.specs.Writes.{write_page}

-- the places use as many frames as before, once one without pages has those of another one, or what page runs
-- give it
pub record CopyLaws : Type 0 where
  pub cloned : (cells : List Place) (to from : ℕ) → to < length cells → from < length cells →
      place_of cells to ≡ no_pages →
      used (slice_set cells to (place_of cells from)) ≡ used cells
  pub changed : (cells : List Place) (i : ℕ) (page_runs : List PageRun) → i < length cells →
      place_of cells i ≡ no_pages →
      All (IsPageRun (length cells) i) page_runs →
      used (slice_set cells i (changed_place cells i page_runs)) ≡ used cells

-- each frame is free, or that of one tag; and a place without pages of its own holds no tree node
pub record StoreLaws : Type 0 where
  pub frames : (w : PageCells) → free_frames w + used (cells w) ≡ frames_of w
  pub bare : (w : PageCells) (i : ℕ) → ((p : ℕ) → IsOwnPage (place_of (cells w) i p) → ⊥) → HoldsNoNode w i

-- a write takes a frame if the page parts, and none otherwise; it leaves the kinds of pages, and any other
-- new tag stays new; another page of any place is as before, and parts as before if it is under another tag
pub record WriteLaws : Type 0 where
  pub taken : (cells : List Place) (i p : ℕ) (piece : Piece) (tag : Tag) → i < length cells → p < MOST_PAGES →
      IsNewTag cells tag →
      used (write_page cells i p piece tag) ≡ used cells + taken_by cells i p
  pub others : (cells : List Place) (i p j q : ℕ) (piece : Piece) (tag : Tag) → i < length cells →
      (j ≡ i → q ≢ p) → IsNewTag cells tag →
      ((t : Tag) (a b : List ℕ) → place_of cells i p ≡ cell.Own (Some (Data t a)) →
      place_of cells j q ≢ cell.Own (Some (Data t b))) →
      is_parting (write_page cells i p piece tag) j q ≡ is_parting cells j q
  pub kinds : (cells : List Place) (i p j : ℕ) (piece : Piece) (tag : Tag) → i < length cells →
      IsOwnPage (place_of cells i p) →
      kinds_of (place_of (write_page cells i p piece tag) j) ≡ kinds_of (place_of cells j)
  pub same : (cells : List Place) (i p j q : ℕ) (piece : Piece) (tag : Tag) → i < length cells → (j ≡ i → q ≢ p) →
      place_of (write_page cells i p piece tag) j q ≡ place_of cells j q
  pub new : (cells : List Place) (i p : ℕ) (piece : Piece) (tag next : Tag) → i < length cells →
      IsNewTag cells next → next ≢ tag →
      IsOwnPage (place_of cells i p) → IsNewTag (write_page cells i p piece tag) next
