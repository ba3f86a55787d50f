use Rattle.cow_space.specs.RowSeen.{frames_of}
use Rattle.cow_space.proofs.cells.PageCells.frames.Goals as goal

pub returns : goal.returns
unfolding frames_of
returns c = c.len.ensures
