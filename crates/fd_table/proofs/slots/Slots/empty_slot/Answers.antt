use Rattle.std.proofs.Common.{◌<◌, ◌≤◌, ◌∷◌, [], length, get_or, set, false, refl, arith, ap, ◌∙◌, sym, subst, cond, eqb, ltb}
use Rattle.lwc_base.specs.Capabilities.{has_bit}
use Rattle.fd_table.specs.declared.table.Table.{Table}
use Rattle.fd_table.specs.Seen.{slots}
use Rattle.fd_table.specs.Pools.{count_of}
use Rattle.fd_table.specs.Objects.{HoldsLess}
use Rattle.fd_table.specs.Tables.{times, table_at}
use Rattle.fd_table.proofs.SlotLemmas.{length-rows}
use Rattle.fd_table.proofs.ChangeLemmas.{table-read, slots-all, set-kept, set-rows, empty-counts, empty-may}
use Rattle.fd_table.proofs.slots.Slots.empty_slot.Goals as goal

pub index-requires : goal.index-requires
unfolding slots
index-requires c =
    omega (arith, c.requires.place, length-rows c.args.self.now.objects.pool c.args.self.now.tables)

pub index_mut-requires : goal.index_mut-requires
unfolding slots
index_mut-requires c =
    omega (arith, c.requires.place, length-rows c.args.self.now.objects.pool c.args.self.now.tables)

pub drop_entry-requires : goal.drop_entry-requires
unfolding slots
drop_entry-requires c = λ o.
    let tables = c.args.self.now.tables in
    let inside : c.args.place < length tables = omega (arith, c.requires.place, length-rows c.args.self.now.objects.pool tables) in
    let read = table-read tables c.args.place _ inside c.index.ensures in
    subst (λ (t : Table). times o (get_or t.entries c.args.slot 0 ∷ []) ≤ count_of c.args.self.now.objects.pool o) (sym read)
    (empty-may c.args.self.now.objects.pool tables c.args.place c.args.slot c.args.self.now.kept inside c.requires.slot o)

pub invariant_of-self : goal.invariant_of-self
unfolding slots
invariant_of-self c =
    let pool = c.args.self.now.objects.pool in
    let tables = c.args.self.now.tables in
    let i = c.args.place in
    let n = c.args.slot in
    let new = c.drop_entry.new.self.pool in
    let inside : i < length tables = omega (arith, c.requires.place, length-rows pool tables) in
    let read = table-read tables i _ inside c.index.ensures in
    let again = table-read tables i _ inside c.index_mut.ensures.value in
    let less = subst (λ (t : Table). HoldsLess pool new (get_or t.entries n 0 ∷ [])) read c.drop_entry.ensures.pool in
    record {
      kept = set-kept pool new tables i n 0 c.set.new.self false c.args.self.now.kept inside c.requires.slot
          (λ j _. slots-all pool new (table_at tables j).entries less.same)
          (c.set.ensures.entries ∙ ap (λ (t : Table). set t.entries n 0) again) less.size
          (empty-counts pool new (get_or (table_at tables i).entries n 0) less)
          (λ m lt. c.set.ensures.filled m lt ∙ ap (λ (t : Table). cond (eqb m n) (ltb 0 0) (has_bit t.filled m)) again)
          (λ m lt. c.set.ensures.common m lt ∙ ap (λ (t : Table). cond (eqb m n) false (has_bit t.common m)) again)
          refl refl;
      numbers = c.drop_entry.ensures.places ∙ c.args.self.now.numbers;
    }

pub returns : goal.returns
unfolding slots
returns c =
    let pool = c.args.self.now.objects.pool in
    let tables = c.args.self.now.tables in
    let i = c.args.place in
    let new = c.drop_entry.new.self.pool in
    let inside : i < length tables = omega (arith, c.requires.place, length-rows pool tables) in
    let again = table-read tables i _ inside c.index_mut.ensures.value in
    set-rows pool new tables i c.args.slot 0 c.set.new.self false c.args.self.now.kept inside c.requires.slot
    (λ j _. slots-all pool new (table_at tables j).entries c.drop_entry.ensures.pool.same)
    (c.set.ensures.entries ∙ ap (λ (t : Table). set t.entries c.args.slot 0) again)
