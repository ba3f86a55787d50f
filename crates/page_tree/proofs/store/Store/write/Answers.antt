use Rattle.std.proofs.Common.{arith, ◌∙◌, sym}
use Rattle.page_tree.proofs.EnterLemmas.{frame-fits, entry-small, named-held, IsSound-written, IsOwned-written, Moves-written}
use Rattle.page_tree.proofs.store.Store.write.Goals as goal

pub hold_cell-requires-clause-fits : goal.hold_cell-requires-clause-fits
hold_cell-requires-clause-fits c = λ f _. frame-fits _ _ _ f c.requires.sound

pub entry_from-requires : goal.entry_from-requires
entry_from-requires c = entry-small _ _ _ _ c.requires.sound c.requires.held

pub drop_cell-requires : goal.drop_cell-requires
drop_cell-requires c = λ f is.
    let held = named-held _ _ _ c.args.leaf.n c.args.index f c.requires.sound c.requires.own.level_is (sym c.entry.ensures ∙ sym c.cell_from-old.ensures.entry ∙ is) in
    omega (arith, held, c.hold_cell.ensures.counts f)

pub returns-clause-sound : goal.returns-clause-sound
returns-clause-sound c =
    let less = rw (c.cell_from-old.ensures.entry, c.entry.ensures) at c.drop_cell.ensures in
    rw (c.set_entry.ensures.entered, c.entry_from.ensures)
    (IsSound-written _ _ _ _ c.requires.sound _ _ _ c.requires.own c.requires.place c.requires.held c.hold_cell.ensures less)

pub returns-clause-own : goal.returns-clause-own
returns-clause-own c =
    let less = rw (c.cell_from-old.ensures.entry, c.entry.ensures) at c.drop_cell.ensures in
    rw (c.set_entry.ensures.entered, c.entry_from.ensures)
    (IsOwned-written _ _ _ _ c.requires.sound _ _ _ c.requires.own c.requires.place c.requires.held c.hold_cell.ensures less)

pub returns-clause-moves : goal.returns-clause-moves
returns-clause-moves c =
    let less = rw (c.cell_from-old.ensures.entry, c.entry.ensures) at c.drop_cell.ensures in
    rw (c.set_entry.ensures.entered, c.entry_from.ensures)
    (Moves-written _ _ _ _ c.requires.sound _ _ _ c.requires.own c.requires.place c.requires.held c.hold_cell.ensures less)
