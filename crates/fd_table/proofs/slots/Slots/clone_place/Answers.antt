use Rattle.std.proofs.Common.{◌<◌, length, arith, ap, ◌∙◌, sym, subst}
use Rattle.fd_table.specs.declared.table.Table.{Table}
use Rattle.fd_table.specs.Seen.{slots}
use Rattle.fd_table.specs.Tables.{times, rows, IsTable}
use Rattle.fd_table.specs.Kept.{IsKept}
use Rattle.fd_table.proofs.SlotLemmas.{length-rows, count-few}
use Rattle.fd_table.proofs.ChangeLemmas.{table-read, clone-kept, clone-rows, clone-held}
use Rattle.fd_table.proofs.slots.Slots.clone_place.Goals as goal

pub index-requires : goal.index-requires
unfolding slots
index-requires c =
    omega (arith, c.requires.from, length-rows c.args.self.now.objects.pool c.args.self.now.tables)

pub copy-requires-clause-to : goal.copy-requires-clause-to
unfolding slots
copy-requires-clause-to c =
    omega (arith, c.requires.to, length-rows c.args.self.now.objects.pool c.args.self.now.tables)

pub copy-requires-clause-from : goal.copy-requires-clause-from
unfolding slots
copy-requires-clause-from c =
    omega (arith, c.requires.from, length-rows c.args.self.now.objects.pool c.args.self.now.tables)

pub used-requires : goal.used-requires
unfolding slots
used-requires c =
    let tables = c.args.self.now.tables in
    let inside : c.args.from < length tables = omega (arith, c.requires.from, length-rows c.args.self.now.objects.pool tables) in
    (subst (IsTable c.args.self.now.objects.pool) (sym (table-read tables c.args.from _ inside c.index.ensures)) (c.args.self.now.kept.each c.args.from inside)).filled

pub hold_all-requires-clause-held : goal.hold_all-requires-clause-held
unfolding slots
hold_all-requires-clause-held c = λ o some.
    let tables = c.args.self.now.tables in
    let inside : c.args.from < length tables = omega (arith, c.requires.from, length-rows c.args.self.now.objects.pool tables) in
    let same = c.used.ensures.same o ∙ ap (λ (t : Table). times o t.entries) (table-read tables c.args.from _ inside c.index.ensures) in
    clone-held c.args.self.now.objects.pool tables c.args.from o c.args.self.now.kept inside (omega (arith, same, some))

pub hold_all-requires-clause-fits : goal.hold_all-requires-clause-fits
hold_all-requires-clause-fits c = λ o.
    omega (arith, c.used.ensures.few, count-few c.args.self.now.objects.pool c.args.self.now.tables o c.args.self.now.kept)

pub invariant_of-self : goal.invariant_of-self
unfolding slots
invariant_of-self c =
    let pool = c.args.self.now.objects.pool in
    let tables = c.args.self.now.tables in
    let to_in : c.args.to < length tables = omega (arith, c.requires.to, length-rows pool tables) in
    let from_in : c.args.from < length tables = omega (arith, c.requires.from, length-rows pool tables) in
    let read = table-read tables c.args.from _ from_in c.index.ensures in
    record {
      kept = subst (IsKept c.hold_all.new.self.pool) (sym c.copy.ensures)
          (clone-kept pool _ tables c.args.to c.args.from c.used.result.now c.args.self.now.kept to_in from_in c.requires.empty c.hold_all.ensures.pool
          (λ o. c.used.ensures.same o ∙ ap (λ (t : Table). times o t.entries) read));
      numbers = c.hold_all.ensures.places ∙ c.args.self.now.numbers;
    }

pub returns : goal.returns
unfolding slots
returns c =
    let pool = c.args.self.now.objects.pool in
    let tables = c.args.self.now.tables in
    let from_in : c.args.from < length tables = omega (arith, c.requires.from, length-rows pool tables) in
    ap (rows c.hold_all.new.self.pool) c.copy.ensures
    ∙ clone-rows pool c.hold_all.new.self.pool tables c.args.to c.args.from c.used.result.now from_in c.hold_all.ensures.pool
