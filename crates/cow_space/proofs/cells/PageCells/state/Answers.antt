use Rattle.std.proofs.Common.{ℕ, ap, ◌∙◌, arith, Option}
use Rattle.range_map.specs.declared.segment.PageState.{PageState}
use Rattle.cow_space.proofs.Views.{kinds-in, read-states}
use Rattle.cow_space.proofs.cells.PageCells.state.Goals as goal

pub index-requires : goal.index-requires
index-requires c = omega (arith, kinds-in c.args.self.now c.args.place c.requires)

pub returns : goal.returns
returns c =
    c.state_at.ensures.state ∙ ap (λ (f : ℕ → Option PageState). f c.args.page) (read-states c.args.self.now c.args.place _ c.requires c.index.ensures)
