use Rattle.std.proofs.Common.{ℕ, ap, ◌∙◌, arith, Option}
use Rattle.range_map.specs.declared.segment.SegmentKind.{SegmentKind}
use Rattle.cow_space.proofs.Views.{kinds-in, read-kinds}
use Rattle.cow_space.proofs.cells.PageCells.kind.Goals as goal

pub index-requires : goal.index-requires
index-requires c = omega (arith, kinds-in c.args.self.now c.args.place c.requires)

pub returns : goal.returns
returns c =
    c.kind_at.ensures.kind ∙ ap (λ (f : ℕ → Option SegmentKind). f c.args.page) (read-kinds c.args.self.now c.args.place _ c.requires c.index.ensures)
