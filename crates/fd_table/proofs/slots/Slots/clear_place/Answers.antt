use Rattle.std.proofs.Common.{◌<◌, length, set, arith, ap, ◌∙◌, sym, subst}
use Rattle.fd_table.specs.declared.table.Table.{Table}
use Rattle.fd_table.specs.Seen.{slots}
use Rattle.fd_table.specs.Tables.{times, rows, IsTable}
use Rattle.fd_table.specs.Kept.{IsKept}
use Rattle.fd_table.proofs.SlotLemmas.{length-rows, naming-at}
use Rattle.fd_table.proofs.ChangeLemmas.{table-read, clear-kept, clear-rows}
use Rattle.fd_table.proofs.slots.Slots.clear_place.Goals as goal

pub index_mut-requires : goal.index_mut-requires
unfolding slots
index_mut-requires c =
    omega (arith, c.requires, length-rows c.args.self.now.objects.pool c.args.self.now.tables)

pub index-requires : goal.index-requires
unfolding slots
index-requires c =
    omega (arith, c.requires, length-rows c.args.self.now.objects.pool c.args.self.now.tables)

pub used-requires : goal.used-requires
unfolding slots
used-requires c =
    let tables = c.args.self.now.tables in
    let inside : c.args.place < length tables = omega (arith, c.requires, length-rows c.args.self.now.objects.pool tables) in
    let read = table-read tables c.args.place _ inside c.index.ensures in
    (subst (IsTable c.args.self.now.objects.pool) (sym read) (c.args.self.now.kept.each c.args.place inside)).filled

pub drop_all-requires : goal.drop_all-requires
unfolding slots
drop_all-requires c = λ o.
    let tables = c.args.self.now.tables in
    let inside : c.args.place < length tables = omega (arith, c.requires, length-rows c.args.self.now.objects.pool tables) in
    let read = table-read tables c.args.place _ inside c.index.ensures in
    let same = c.used.ensures.same o ∙ ap (λ (t : Table). times o t.entries) read in
    omega (arith, same, naming-at tables o c.args.place inside, c.args.self.now.kept.exact o)

pub invariant_of-self : goal.invariant_of-self
unfolding slots
invariant_of-self c =
    let pool = c.args.self.now.objects.pool in
    let tables = c.args.self.now.tables in
    let inside : c.args.place < length tables = omega (arith, c.requires, length-rows pool tables) in
    let read = table-read tables c.args.place _ inside c.index.ensures in
    record {
      kept = subst (λ t. IsKept c.drop_all.new.self.pool (set tables c.args.place t)) (sym c.fresh.ensures)
          (clear-kept pool _ tables c.args.place c.used.result.now c.args.self.now.kept inside c.drop_all.ensures.pool
          (λ o. c.used.ensures.same o ∙ ap (λ (t : Table). times o t.entries) read));
      numbers = c.drop_all.ensures.places ∙ c.args.self.now.numbers;
    }

pub returns : goal.returns
unfolding slots
returns c =
    let pool = c.args.self.now.objects.pool in
    let tables = c.args.self.now.tables in
    ap (λ t. rows c.drop_all.new.self.pool (set tables c.args.place t)) c.fresh.ensures
    ∙ clear-rows pool c.drop_all.new.self.pool tables c.args.place c.used.result.now c.drop_all.ensures.pool
