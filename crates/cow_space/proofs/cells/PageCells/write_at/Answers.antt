use Rattle.std.proofs.Common.{◌∙◌, ap, arith, length, length-set, refl}
use Rattle.lwc_types.specs.declared.name.Tag.{Tag}
use Rattle.cow_space.specs.RowSeen.{maps}
use Rattle.cow_space.specs.Seen.{cells, rights}
use Rattle.cow_space.proofs.FrameLemmas.{lone, segment-may, segment-own}
use Rattle.cow_space.proofs.OwnTags.{parting-rows, used-rows}
use Rattle.cow_space.proofs.Written.{cells-written, kept-written}
use Rattle.cow_space.proofs.cells.PageCells.write_at.Goals as goal

pub write_lone-requires : goal.write_lone-requires
write_lone-requires c = c.requires.row

pub invariant_of-self : goal.invariant_of-self
invariant_of-self c =
    let w = c.args.self.now in
    record {
      kept = kept-written w c.args.place c.args.page (record { at = c.args.at; bytes = c.args.piece.now }) (record { job = 0; k = 0 }) (maps c.write_lone.new.self) c.requires.has.inside (segment-own w c.args.place c.args.page c.requires.has.own) (c.write_lone.ensures.written (record { job = 0; k = 0 }));
      bare = λ j none. c.write_lone.ensures.others j (w.bare j none);
    }

pub returns-clause-own : goal.returns-clause-own
returns-clause-own c = segment-own c.args.self.now c.args.place c.args.page c.requires.has.own

pub returns-clause-may : goal.returns-clause-may
returns-clause-may c = segment-may c.args.self.now c.args.place c.args.page c.requires.may

pub returns-clause-alone : goal.returns-clause-alone
returns-clause-alone c = parting-rows c.args.self.now c.args.place c.args.page ∙ lone c.args.self.now.rows c.args.place c.args.page c.args.frame c.requires.row

pub returns-clause-enough : goal.returns-clause-enough
returns-clause-enough c = omega (arith, used-rows c.args.self.now, c.write_lone.ensures.within)

pub returns-clause-written : goal.returns-clause-written
unfolding cells
returns-clause-written c = λ tag.
    cells-written c.args.self.now c.args.place c.args.page (record { at = c.args.at; bytes = c.args.piece.now }) tag (maps c.write_lone.new.self) c.requires.has.inside (segment-own c.args.self.now c.args.place c.args.page c.requires.has.own) (c.write_lone.ensures.written tag)

pub returns-clause-rights : goal.returns-clause-rights
unfolding rights
returns-clause-rights c = refl

-- there are as many places as before
first : Tag
first = record { job = 0; k = 0 }

pub returns-clause-has : goal.returns-clause-has
returns-clause-has c = λ j q f has.
    let many = ap length (returns-clause-written c first) ∙ length-set _ _ _ in
    record { inside = omega (arith, many, has.inside); own = has.own; row = c.write_lone.ensures.leads j q f has.row }

pub returns-clause-lone : goal.returns-clause-lone
returns-clause-lone c = λ j q f lone.
    let many = ap length (returns-clause-written c first) ∙ length-set _ _ _ in
    record {
      has = record { inside = omega (arith, many, lone.has.inside); own = lone.has.own; row = c.write_lone.ensures.leads j q f lone.has.row };
      may = lone.may;
      row = c.write_lone.ensures.alone j q f lone.row;
    }
