use Rattle.std.proofs.Common.{◌<◌, ◌≤◌, ◌∷◌, [], length, get_or, set, arith, ap, ◌∙◌, sym, subst, cond, eqb, ltb, ℕ}
use Rattle.lwc_base.specs.Capabilities.{has_bit}
use Rattle.fd_table.specs.declared.table.Table.{Table}
use Rattle.fd_table.specs.Seen.{slots}
use Rattle.fd_table.specs.Slots.{Slot, is_filled, is_common, put_slot, row_of}
use Rattle.fd_table.specs.Objects.{HoldsLess, HoldsMore}
use Rattle.fd_table.specs.Pools.{count_of}
use Rattle.fd_table.specs.Tables.{times, rows, table_at}
use Rattle.fd_table.proofs.SlotLemmas.{length-rows, count-few}
use Rattle.fd_table.proofs.ChangeLemmas.{table-read, slots-all, set-kept, set-rows, empty-may, share-counts, share-entry, share-filled, share-common}
use Rattle.fd_table.proofs.slots.Slots.copy_slot.Goals as goal

pub index-requires : goal.index-requires
unfolding slots
index-requires c =
    omega (arith, c.requires.from, length-rows c.args.self.now.objects.pool c.args.self.now.tables)

pub index-requires-2 : goal.index-requires-2
unfolding slots
index-requires-2 c =
    omega (arith, c.requires.from, length-rows c.args.self.now.objects.pool c.args.self.now.tables)

pub index-requires-3 : goal.index-requires-3
unfolding slots
index-requires-3 c =
    omega (arith, c.requires.to, length-rows c.args.self.now.objects.pool c.args.self.now.tables)

pub index_mut-requires : goal.index_mut-requires
unfolding slots
index_mut-requires c =
    omega (arith, c.requires.to, length-rows c.args.self.now.objects.pool c.args.self.now.tables)

pub hold_all-requires-clause-held : goal.hold_all-requires-clause-held
unfolding slots
hold_all-requires-clause-held c = λ o some.
    let pool = c.args.self.now.objects.pool in
    let tables = c.args.self.now.tables in
    let from_in : c.args.from < length tables = omega (arith, c.requires.from, length-rows pool tables) in
    let same = ap (λ (t : Table). times o (get_or t.entries c.args.other_slot 0 ∷ [])) (table-read tables c.args.from _ from_in c.index.ensures) in
    omega (arith, some, same, empty-may pool tables c.args.from c.args.other_slot c.args.self.now.kept from_in c.requires.from_slot o)

pub hold_all-requires-clause-fits : goal.hold_all-requires-clause-fits
hold_all-requires-clause-fits c = λ o.
    omega (arith, count-few c.args.self.now.objects.pool c.args.self.now.tables o c.args.self.now.kept, c.args.self.now.kept.few)

pub drop_entry-requires : goal.drop_entry-requires
unfolding slots
drop_entry-requires c = λ o.
    let pool = c.args.self.now.objects.pool in
    let tables = c.args.self.now.tables in
    let to_in : c.args.to < length tables = omega (arith, c.requires.to, length-rows pool tables) in
    let read = table-read tables c.args.to _ to_in c.index-3.ensures in
    let may = subst (λ (t : Table). times o (get_or t.entries c.args.slot 0 ∷ []) ≤ count_of pool o) (sym read) (empty-may pool tables c.args.to c.args.slot c.args.self.now.kept to_in c.requires.slot o) in
    omega (arith, may, c.hold_all.ensures.pool.counts o)

pub invariant_of-self : goal.invariant_of-self
unfolding slots
invariant_of-self c =
    let pool = c.args.self.now.objects.pool in
    let tables = c.args.self.now.tables in
    let to = c.args.to in
    let n = c.args.slot in
    let m = c.args.other_slot in
    let mid = c.hold_all.new.self.pool in
    let new = c.drop_entry.new.self.pool in
    let kept = c.args.self.now.kept in
    let to_in : to < length tables = omega (arith, c.requires.to, length-rows pool tables) in
    let from_in : c.args.from < length tables = omega (arith, c.requires.from, length-rows pool tables) in
    let e = get_or (table_at tables c.args.from).entries m 0 in
    let read = table-read tables c.args.from _ from_in c.index.ensures in
    let again = table-read tables to _ to_in c.index_mut.ensures.value in
    let entry_is = ap (λ (t : Table). get_or t.entries m 0) read in
    let more = subst (λ (t : Table). HoldsMore pool mid (get_or t.entries m 0 ∷ [])) read c.hold_all.ensures.pool in
    let less = subst (λ (t : Table). HoldsLess mid new (get_or t.entries n 0 ∷ [])) (table-read tables to _ to_in c.index-3.ensures) c.drop_entry.ensures.pool in
    let same = λ (o : ℕ). less.same o ∙ more.same o in
    let is = share-entry pool new tables c.args.from m from_in same in
    let common_is = c.is_common-common.ensures ∙ ap (λ (t : Table). has_bit t.common m) (table-read tables c.args.from _ from_in c.index-2.ensures) in
    record {
      kept = set-kept pool new tables to n e c.set.new.self c.is_common-common.result kept to_in c.requires.slot
          (λ j _. slots-all pool new (table_at tables j).entries same)
          (c.set.ensures.entries ∙ ap (λ (t : Table). set t.entries n (get_or c.index.result.now.entries m 0)) again ∙ ap (set (table_at tables to).entries n) entry_is) (less.size ∙ more.size)
          (share-counts pool mid new (get_or (table_at tables to).entries n 0) e more less)
          (λ k lt. c.set.ensures.filled k lt ∙ ap (λ (t : Table). cond (eqb k n) (ltb 0 (get_or c.index.result.now.entries m 0)) (has_bit t.filled k)) again ∙ ap (λ x. cond (eqb k n) (ltb 0 x) (has_bit (table_at tables to).filled k)) entry_is)
          (λ k lt. c.set.ensures.common k lt ∙ ap (λ (t : Table). cond (eqb k n) c.is_common-common.result (has_bit t.common k)) again)
          (ap (λ (s : Slot). is_filled s.cell) is ∙ share-filled pool tables c.args.from m kept from_in)
          (common_is ∙ share-common pool tables c.args.from m kept from_in c.requires.from_slot ∙ sym (ap (λ (s : Slot). is_common s.cell) is));
      numbers = c.drop_entry.ensures.places ∙ c.hold_all.ensures.places ∙ c.args.self.now.numbers;
    }

pub returns : goal.returns
unfolding slots
returns c =
    let pool = c.args.self.now.objects.pool in
    let tables = c.args.self.now.tables in
    let to = c.args.to in
    let n = c.args.slot in
    let m = c.args.other_slot in
    let new = c.drop_entry.new.self.pool in
    let to_in : to < length tables = omega (arith, c.requires.to, length-rows pool tables) in
    let from_in : c.args.from < length tables = omega (arith, c.requires.from, length-rows pool tables) in
    let e = get_or (table_at tables c.args.from).entries m 0 in
    let entry_is = ap (λ (t : Table). get_or t.entries m 0) (table-read tables c.args.from _ from_in c.index.ensures) in
    let again = table-read tables to _ to_in c.index_mut.ensures.value in
    let same = λ (o : ℕ). c.drop_entry.ensures.pool.same o ∙ c.hold_all.ensures.pool.same o in
    set-rows pool new tables to n e c.set.new.self c.is_common-common.result c.args.self.now.kept to_in c.requires.slot
    (λ j _. slots-all pool new (table_at tables j).entries same)
    (c.set.ensures.entries ∙ ap (λ (t : Table). set t.entries n (get_or c.index.result.now.entries m 0)) again ∙ ap (set (table_at tables to).entries n) entry_is)
    ∙ ap (λ s. set (rows pool tables) to (put_slot (row_of (rows pool tables) to) n s)) (share-entry pool new tables c.args.from m from_in same)
