-- What places are seen as.
use Rattle.std.specs.Prelude.{◌≡◌, ℕ, List, length}
use Rattle.lwc_types.specs.declared.name.Tag.{Tag}
use Rattle.lwc_types.specs.declared.right.Right.{Right}
use Rattle.fd_table.specs.Seen as slots_seen
use Rattle.cow_space.specs.Cells.{Place, rights_of}
use Rattle.cow_space.specs.Seen as pages_seen
use Rattle.lazy_world.specs.declared.places.Places.{Places}
use Rattle.lazy_world.specs.Cells.{Row, rows_of}

-- the cells at each place
unfoldable pub rows : Places → ℕ → Row
rows w = rows_of (pages_seen.cells w.pages) (slots_seen.slots w.slots) w.uids.items

-- the rights of the pages of each place
unfoldable pub rights : Places → ℕ → ℕ → Right
rights w = rights_of (pages_seen.rights w.pages)

-- the cells of the pages of each place
unfoldable pub pages : Places → List Place
pages w = pages_seen.cells w.pages

-- how many frames there are
unfoldable pub frame_count : Places → ℕ
frame_count w = pages_seen.frames_of w.pages

-- how many places there are
abbrev pub count : Places → ℕ
count w = length (pages_seen.cells w.pages)

-- how many tree nodes are free
unfoldable pub free_nodes : Places → ℕ
free_nodes w = pages_seen.free_nodes w.pages

-- how many node steps were taken
abbrev pub node_steps : Places → ℕ
node_steps w = pages_seen.node_steps w.pages

-- how many frames are free
unfoldable pub free_frames : Places → ℕ
free_frames w = pages_seen.free_frames w.pages

-- the stamp and the bytes of each frame, in use or free
unfoldable pub pool : Places → ℕ → Tag × List ℕ
pool w = pages_seen.pool w.pages

-- the pages keep their rights, as many tree nodes and frames are free as before, no node step was taken, and
-- each frame is as it was
pub record KeepsStore (old new : Places) : Type 0 where
  pub rights : rights new ≡ rights old
  pub nodes : free_nodes new ≡ free_nodes old
  pub steps : node_steps new ≡ node_steps old
  pub free : free_frames new ≡ free_frames old
  pub pool : pool new ≡ pool old
