use Rattle.std.proofs.Common.{◌∙◌, ap, sym, Some}
use Rattle.page_tree.specs.Pages.{entry_for}
use Rattle.cow_space.proofs.FrameLemmas.{own-segment}
use Rattle.cow_space.proofs.RowViews.{tree-in}
use Rattle.cow_space.proofs.Views.{row-in}
use Rattle.cow_space.proofs.cells.PageCells.frame.Goals as goal

pub cell-requires-clause-row : goal.cell-requires-clause-row
cell-requires-clause-row c = tree-in c.args.self.now.rows c.args.place (row-in c.args.self.now c.args.place c.requires.place)

pub returns-in-Frame : goal.returns-in-Frame
returns-in-Frame c =
    let w = c.args.self.now in
    record {
      inside = c.requires.place;
      own = own-segment w c.args.place c.args.page (sym c.kind.ensures ∙ c.in-Some-Own.is ∙ ap Some c.in-Some-Own.field-0-is);
      row = record {
        inside = tree-in w.rows c.args.place (row-in w c.args.place c.requires.place);
        below = c.requires.page;
        there = ap entry_for (sym c.cell.ensures ∙ c.in-Frame.is);
      };
    }
