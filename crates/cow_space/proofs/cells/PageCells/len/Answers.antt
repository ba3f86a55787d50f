use Rattle.std.proofs.Common.{arith}
use Rattle.cow_space.proofs.Views.{row-count}
use Rattle.cow_space.proofs.cells.PageCells.len.Goals as goal

pub returns : goal.returns
returns c =
    let w = c.args.self.now in omega (arith, c.len.ensures, w.kept.places, row-count w)
