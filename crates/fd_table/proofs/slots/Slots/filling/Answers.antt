use Rattle.std.proofs.Common.{◌<◌, ◌-◌, length, get_or, arith, ap, ◌∙◌, sym, subst, ℕ}
use Rattle.fd_table.specs.declared.table.Table.{Table}
use Rattle.fd_table.specs.Seen.{slots}
use Rattle.fd_table.specs.Slots.{Slot}
use Rattle.fd_table.specs.Pools.{count_of}
use Rattle.fd_table.specs.Tables.{table_at, entry_slot}
use Rattle.fd_table.proofs.SlotLemmas.{length-rows, row-at, slots-at, entry-empty, entry-some}
use Rattle.fd_table.proofs.ChangeLemmas.{table-read, entry-held}
use Rattle.fd_table.proofs.slots.Slots.filling.Goals as goal

pub index-requires : goal.index-requires
unfolding slots
index-requires c =
    omega (arith, c.requires.place, length-rows c.args.self.now.objects.pool c.args.self.now.tables)

pub filling-requires : goal.filling-requires
unfolding slots
filling-requires c =
    let pool = c.args.self.now.objects.pool in
    let tables = c.args.self.now.tables in
    let inside : c.args.place < length tables = omega (arith, c.requires.place, length-rows pool tables) in
    let read = table-read tables c.args.place _ inside c.index.ensures in
    let same = ap (λ (t : Table). get_or t.entries c.args.slot 0) read in
    subst (λ (t : Table). 0 < count_of pool (get_or t.entries c.args.slot 0 - 1)) (sym read) (entry-held pool tables c.args.place c.args.slot c.args.self.now.kept inside (omega (arith, same)))

pub returns-in-0-clause-none : goal.returns-in-0-clause-none
unfolding slots
returns-in-0-clause-none c =
    let pool = c.args.self.now.objects.pool in
    let tables = c.args.self.now.tables in
    let inside : c.args.place < length tables = omega (arith, c.requires.place, length-rows pool tables) in
    let same = ap (λ (t : Table). get_or t.entries c.args.slot 0) (table-read tables c.args.place _ inside c.index.ensures) in
    ap (λ (row : ℕ → Slot). row c.args.slot) (row-at pool tables c.args.place inside) ∙ slots-at pool (table_at tables c.args.place).entries c.args.slot
    ∙ entry-empty pool (get_or (table_at tables c.args.place).entries c.args.slot 0) (omega (arith, same))

pub returns-in_default-clause-some : goal.returns-in_default-clause-some
unfolding slots
returns-in_default-clause-some c =
    let pool = c.args.self.now.objects.pool in
    let tables = c.args.self.now.tables in
    let inside : c.args.place < length tables = omega (arith, c.requires.place, length-rows pool tables) in
    let same = ap (λ (t : Table). get_or t.entries c.args.slot 0) (table-read tables c.args.place _ inside c.index.ensures) in
    ap (λ (row : ℕ → Slot). row c.args.slot) (row-at pool tables c.args.place inside) ∙ slots-at pool (table_at tables c.args.place).entries c.args.slot
    ∙ ap (entry_slot pool) (sym same) ∙ entry-some pool _ (omega arith) ∙ sym c.filling.ensures
