use Rattle.std.proofs.Common.{ap, ◌∙◌, arith}
use Rattle.range_map.specs.Kinds.{ranges}
use Rattle.cow_space.proofs.Views.{kinds-in, read-states}
use Rattle.cow_space.proofs.cells.PageCells.count.Goals as goal
use Rattle.lwc_types.specs.declared.limits.TheConstants.{MOST_PAGES}

pub index-requires : goal.index-requires
index-requires c = omega (arith, kinds-in c.args.self.now c.args.place c.requires)

pub returns-clause-ranges : goal.returns-clause-ranges
returns-clause-ranges c = c.count.ensures.ranges ∙ ap (ranges MOST_PAGES) (read-states c.args.self.now c.args.place _ c.requires c.index.ensures)
