use Rattle.std.proofs.Common.{◌∙◌, Some, ap, refl, sym}
use Rattle.page_tree.proofs.HolderLemmas.{held-frame}
use Rattle.cow_space.specs.Maps.{data_of}
use Rattle.cow_space.specs.RowSeen.{maps}
use Rattle.cow_space.specs.Trees.{cell_value}
use Rattle.cow_space.proofs.FrameLemmas.{row-there, segment-own, there}
use Rattle.cow_space.proofs.OwnTags.{own-rows}
use Rattle.cow_space.proofs.RowViews.{row-value}
use Rattle.cow_space.proofs.cells.PageCells.bytes_at.Goals as goal

pub bytes-requires : goal.bytes-requires
bytes-requires c =
    let w = c.args.self.now in
    held-frame _ _ w.rows.trees.items w.rows.kept.tied c.args.frame
    (record { k = c.args.place; p = c.args.page; inside = c.requires.row.inside; below = c.requires.row.below; has = there w.rows c.args.place c.args.page c.args.frame c.requires.row })

pub returns-clause-value : goal.returns-clause-value
unfolding maps
returns-clause-value c =
    let w = c.args.self.now in
    let row = row-there w.rows c.args.place c.requires.row.inside in
    ap Some c.bytes.ensures.value
    ∙ sym (ap data_of (row-value w.rows c.args.place c.args.page row c.requires.row.below ∙ ap (cell_value w.rows.store.frames) (there w.rows c.args.place c.args.page c.args.frame c.requires.row)))
    ∙ sym (own-rows w data_of refl c.args.place c.args.page)

pub returns-clause-own : goal.returns-clause-own
returns-clause-own c =
    let w = c.args.self.now in
    segment-own w c.args.place c.args.page c.requires.own
