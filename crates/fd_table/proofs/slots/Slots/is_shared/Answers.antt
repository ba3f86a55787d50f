use Rattle.std.proofs.Common.{◌≡◌, ◌<◌, length, get_or, arith, ap, ◌∙◌, sym, ℕ}
use Rattle.std.proofs.lemmas.Bool.{eqb-true}
use Rattle.fd_table.specs.declared.table.Table.{Table}
use Rattle.fd_table.specs.Seen.{slots}
use Rattle.fd_table.specs.Slots.{Slot}
use Rattle.fd_table.specs.Tables.{entry_slot, table_at}
use Rattle.fd_table.proofs.ChangeLemmas.{table-read}
use Rattle.fd_table.proofs.SlotLemmas.{length-rows, row-at, slots-at}
use Rattle.fd_table.proofs.slots.Slots.is_shared.Goals as goal

pub index-requires : goal.index-requires
unfolding slots
index-requires c =
    omega (arith, c.requires.place, length-rows c.args.self.now.objects.pool c.args.self.now.tables)

pub index-requires-2 : goal.index-requires-2
unfolding slots
index-requires-2 c =
    omega (arith, c.requires.other, length-rows c.args.self.now.objects.pool c.args.self.now.tables)

pub returns : goal.returns
unfolding slots
returns c is =
    let pool = c.args.self.now.objects.pool in
    let tables = c.args.self.now.tables in
    let first : c.args.place < length tables = omega (arith, c.requires.place, length-rows pool tables) in
    let second : c.args.other < length tables = omega (arith, c.requires.other, length-rows pool tables) in
    let same : get_or (table_at tables c.args.place).entries c.args.slot 0 ≡ get_or (table_at tables c.args.other).entries c.args.slot 0 =
    ap (λ (t : Table). get_or t.entries c.args.slot 0) (sym (table-read tables c.args.place _ first c.index.ensures)) ∙ eqb-true _ _ is
    ∙ ap (λ (t : Table). get_or t.entries c.args.slot 0) (table-read tables c.args.other _ second c.index-2.ensures) in
    ap (λ (row : ℕ → Slot). row c.args.slot) (row-at pool tables c.args.place first) ∙ slots-at pool (table_at tables c.args.place).entries c.args.slot
    ∙ ap (entry_slot pool) same
    ∙ sym (ap (λ (row : ℕ → Slot). row c.args.slot) (row-at pool tables c.args.other second) ∙ slots-at pool (table_at tables c.args.other).entries c.args.slot)
