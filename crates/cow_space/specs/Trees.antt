-- The maps that trees stand for, of their cells and of the frames.
use Rattle.std.specs.Prelude.{ℕ, if◌then◌else◌, List, Option, None, Some, map, nat_lt}
use Rattle.frame_pool.specs.Frame.{Frame, frame_stamp, frame_bytes}
use Rattle.lwc_types.specs.declared.page.PageValue.{PageValue}
use Rattle.lwc_types.specs.declared.page.PageValue.TheVariants as value
use Rattle.node_pool.specs.Nodes.{Node}
use Rattle.page_tree.specs.declared.cell.PageCell.{PageCell}
use Rattle.page_tree.specs.declared.cell.PageCell.TheVariants as cell
use Rattle.page_tree.specs.declared.store.TheConstants.{PAGES}
use Rattle.page_tree.specs.Pages.{page}

-- what a tree has for each page; past the last page there is nothing
unfoldable pub cells : List Node → ℕ → ℕ → PageCell
cells nodes tree p = if nat_lt p PAGES then page nodes tree p else cell.Absent

-- the cells of each tree
unfoldable pub all_cells : List Node → List ℕ → List (ℕ → PageCell)
all_cells nodes trees = map (cells nodes) trees

-- the value of a cell
abbrev pub cell_value : List Frame → PageCell → Option PageValue
cell_value frames cell.Absent = None
cell_value frames cell.Zero = Some value.Zero
cell_value frames (cell.Frame f) = Some (value.Data (frame_stamp frames f.n) (frame_bytes frames f.n))

-- the values of a tree's cells
abbrev pub values : List Frame → (ℕ → PageCell) → ℕ → Option PageValue
values frames cells p = cell_value frames (cells p)

-- the map of each tree
unfoldable pub tree_maps : List Frame → List Node → List ℕ → List (ℕ → Option PageValue)
tree_maps frames nodes trees = map (values frames) (all_cells nodes trees)
