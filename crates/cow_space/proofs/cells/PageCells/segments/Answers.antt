use Rattle.std.proofs.Common.{ap, ◌∙◌, arith, length}
use Rattle.range_map.specs.Kinds.{ranges, state_at}
use Rattle.cow_space.proofs.Views.{kinds-in, read-states}
use Rattle.cow_space.proofs.cells.PageCells.segments.Goals as goal
use Rattle.lwc_types.specs.declared.limits.TheConstants.{MOST_PAGES}

pub index-requires : goal.index-requires
index-requires c = omega (arith, kinds-in c.args.self.now c.args.place c.requires)

pub returns-clause-states : goal.returns-clause-states
returns-clause-states c = ap state_at c.segments.ensures.items ∙ read-states c.args.self.now c.args.place _ c.requires c.index.ensures

pub returns-clause-count : goal.returns-clause-count
returns-clause-count c =
    ap length c.segments.ensures.items ∙ c.segments.ensures.canonical.counted ∙ ap (ranges MOST_PAGES) (read-states c.args.self.now c.args.place _ c.requires c.index.ensures)
