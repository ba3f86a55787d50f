-- What the pages of places are seen as.
use Rattle.std.specs.Prelude.{ℕ, List}
use Rattle.lwc_types.specs.declared.name.Tag.{Tag}
use Rattle.lwc_types.specs.declared.right.Right.{Right}
use Rattle.cow_space.specs.RowSeen as rows
use Rattle.cow_space.specs.declared.cells.PageCells.{PageCells}
use Rattle.cow_space.specs.Cells.{Place, all_cells, all_rights}

-- the cells of each place
unfoldable pub cells : PageCells → List Place
cells w = all_cells w.kinds (rows.maps w.rows)

-- the rights of each place; an absent page has Write
unfoldable pub rights : PageCells → List (ℕ → Right)
rights w = all_rights w.kinds

-- how many frames there are
abbrev pub frames_of : PageCells → ℕ
frames_of w = rows.frames_of w.rows

-- the stamp and the bytes of each frame, in use or free
abbrev pub pool : PageCells → ℕ → Tag × List ℕ
pool w = rows.pool w.rows

-- how many frames are free
abbrev pub free_frames : PageCells → ℕ
free_frames w = rows.free_frames w.rows

-- how many tree nodes are free
abbrev pub free_nodes : PageCells → ℕ
free_nodes w = rows.free_nodes w.rows

-- how many node steps were taken
abbrev pub node_steps : PageCells → ℕ
node_steps w = rows.node_steps w.rows

-- a place holds no tree node
unfoldable pub HoldsNoNode : PageCells → ℕ → Type 0
HoldsNoNode w i = rows.HasNoTree w.rows i
