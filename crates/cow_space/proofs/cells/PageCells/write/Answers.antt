use Rattle.std.proofs.Common.{◌≡◌, Bool, true, false, not, sym, ap, ◌∙◌, arith}
use Rattle.cow_space.specs.RowSeen.{HasNoTree, maps}
use Rattle.cow_space.specs.Seen.{cells}
use Rattle.cow_space.proofs.OwnTags.{new-rows, parting-rows, used-rows}
use Rattle.cow_space.proofs.Views.{own-page, row-in}
use Rattle.cow_space.proofs.Written.{bare-written, cells-written, kept-written}
use Rattle.cow_space.proofs.cells.PageCells.write.Goals as goal

pub part-requires-clause-row : goal.part-requires-clause-row
part-requires-clause-row c = row-in c.args.self.now c.args.place c.requires.place

pub part-requires-clause-page : goal.part-requires-clause-page
part-requires-clause-page c = own-page c.args.self.now c.args.place c.args.page c.requires.own

pub part-requires-clause-new : goal.part-requires-clause-new
part-requires-clause-new c = new-rows c.args.self.now c.args.tag c.requires.new

pub part-requires-clause-parts : goal.part-requires-clause-parts
part-requires-clause-parts c =
    sym (parting-rows c.args.self.now c.args.place c.args.page) ∙ sym c.is_parting-parting.ensures ∙ c.if-parting.true

pub part-requires-clause-free : goal.part-requires-clause-free
part-requires-clause-free c =
    omega (arith, used-rows c.args.self.now, c.used.ensures.used, c.used.ensures.within, c.frames.ensures, c.if-used-frames.false)

pub invariant_of-self : goal.invariant_of-self
invariant_of-self c =
    let w = c.args.self.now in
    record {
      kept = kept-written w c.args.place c.args.page (record { at = c.args.at; bytes = c.args.piece.now }) c.args.tag (maps c.part.new.self) c.requires.place c.requires.own c.part.ensures.written;
      bare = bare-written w c.args.place c.args.page (record { at = c.args.at; bytes = c.args.piece.now }) c.args.tag (maps c.part.new.self) c.requires.place c.requires.own c.part.ensures.written (HasNoTree c.part.new.self) c.part.ensures.others;
    }

pub write_in_place-requires-clause-row : goal.write_in_place-requires-clause-row
write_in_place-requires-clause-row c = row-in c.args.self.now c.args.place c.requires.place

pub write_in_place-requires-clause-page : goal.write_in_place-requires-clause-page
write_in_place-requires-clause-page c = own-page c.args.self.now c.args.place c.args.page c.requires.own

-- a page that does not part is written in place
in-place : (parting parts told : Bool) → parting ≡ false → parting ≡ parts → told ≡ not parts → told ≡ true
in-place parting parts told off is tells = let p = sym is ∙ off in tells ∙ ap not p

pub invariant_of-self-else-parting : goal.invariant_of-self-else-parting
invariant_of-self-else-parting c =
    let w = c.args.self.now in
    record {
      kept = kept-written w c.args.place c.args.page (record { at = c.args.at; bytes = c.args.piece.now }) c.args.tag (maps c.write_in_place.new.self) c.requires.place c.requires.own (c.write_in_place.ensures.written (in-place c.is_parting-parting.result _ c.write_in_place.result c.if-parting.false (c.is_parting-parting.ensures ∙ parting-rows c.args.self.now c.args.place c.args.page) c.write_in_place.ensures.tells) c.args.tag);
      bare = λ j none. c.write_in_place.ensures.others j (w.bare j none);
    }

pub returns-else-used-frames-clause-written : goal.returns-else-used-frames-clause-written
unfolding cells
returns-else-used-frames-clause-written c =
    cells-written c.args.self.now c.args.place c.args.page (record { at = c.args.at; bytes = c.args.piece.now }) c.args.tag (maps c.part.new.self) c.requires.place c.requires.own c.part.ensures.written

pub returns-else-parting-clause-full : goal.returns-else-parting-clause-full
returns-else-parting-clause-full c =
    let alone = sym c.is_parting-parting.ensures ∙ c.if-parting.false in
    grind (arith, alone, used-rows c.args.self.now, c.write_in_place.ensures.within)

pub returns-else-parting-clause-written : goal.returns-else-parting-clause-written
unfolding cells
returns-else-parting-clause-written c =
    cells-written c.args.self.now c.args.place c.args.page (record { at = c.args.at; bytes = c.args.piece.now }) c.args.tag (maps c.write_in_place.new.self) c.requires.place c.requires.own (c.write_in_place.ensures.written (in-place c.is_parting-parting.result _ c.write_in_place.result c.if-parting.false (c.is_parting-parting.ensures ∙ parting-rows c.args.self.now c.args.place c.args.page) c.write_in_place.ensures.tells) c.args.tag)
