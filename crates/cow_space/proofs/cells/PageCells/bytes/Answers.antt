use Rattle.std.proofs.Common.{◌∙◌, Some, ap, refl, sym}
use Rattle.page_tree.proofs.HolderLemmas.{held-frame}
use Rattle.cow_space.specs.Maps.{data_of}
use Rattle.cow_space.specs.RowSeen.{maps}
use Rattle.cow_space.specs.Trees.{cell_value}
use Rattle.cow_space.proofs.OwnTags.{own-rows}
use Rattle.cow_space.proofs.RowViews.{row-value, tree-in}
use Rattle.cow_space.proofs.Trees.{data-none}
use Rattle.cow_space.proofs.Views.{row-in}
use Rattle.cow_space.proofs.cells.PageCells.bytes.Goals as goal

pub cell-requires-clause-row : goal.cell-requires-clause-row
cell-requires-clause-row c =
    let w = c.args.self.now in
    tree-in w.rows c.args.place (row-in w c.args.place c.requires.place)

pub bytes-requires : goal.bytes-requires
bytes-requires c =
    let w = c.args.self.now in
    held-frame _ _ w.rows.trees.items w.rows.kept.tied c.in-Frame.frame.n
    (record { k = c.args.place; p = c.args.page; inside = tree-in w.rows c.args.place (row-in w c.args.place c.requires.place); below = c.requires.page; has = sym c.cell.ensures ∙ c.in-Frame.is })

pub returns-in-Frame-clause-value : goal.returns-in-Frame-clause-value
unfolding maps
returns-in-Frame-clause-value c =
    let w = c.args.self.now in
    let row = row-in w c.args.place c.requires.place in
    ap Some c.bytes.ensures.value
    ∙ sym (ap data_of (row-value w.rows c.args.place c.args.page row c.requires.page ∙ ap (cell_value w.rows.store.frames) (sym c.cell.ensures ∙ c.in-Frame.is)))
    ∙ sym (own-rows w data_of refl c.args.place c.args.page)

pub returns-in_default-clause-value : goal.returns-in_default-clause-value
unfolding maps
returns-in_default-clause-value c =
    let w = c.args.self.now in
    let row = row-in w c.args.place c.requires.place in
    sym (ap data_of (row-value w.rows c.args.place c.args.page row c.requires.page ∙ ap (cell_value w.rows.store.frames) (sym c.cell.ensures))
    ∙ data-none w.rows.store.frames c.cell.result c.in_default.not-Frame)
    ∙ sym (own-rows w data_of refl c.args.place c.args.page)
