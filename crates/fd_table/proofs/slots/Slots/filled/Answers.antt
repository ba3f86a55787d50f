use Rattle.std.proofs.Common.{◌<◌, length, arith, ap, ◌∙◌, sym, ℕ}
use Rattle.lwc_base.specs.Capabilities.{has_bit}
use Rattle.fd_table.specs.declared.table.Table.{Table}
use Rattle.fd_table.specs.Slots.{Slot, is_filled}
use Rattle.fd_table.specs.Seen.{slots}
use Rattle.fd_table.proofs.SlotLemmas.{length-rows, row-at}
use Rattle.fd_table.proofs.ChangeLemmas.{table-read}
use Rattle.fd_table.proofs.slots.Slots.filled.Goals as goal

pub index-requires : goal.index-requires
unfolding slots
index-requires c =
    omega (arith, c.requires, length-rows c.args.self.now.objects.pool c.args.self.now.tables)

pub returns : goal.returns
unfolding slots
returns c = λ n n_in.
    let pool = c.args.self.now.objects.pool in
    let tables = c.args.self.now.tables in
    let inside : c.args.place < length tables = omega (arith, c.requires, length-rows pool tables) in
    let is = c.args.self.now.kept.each c.args.place inside in
    ap (λ (t : Table). has_bit t.filled n) (table-read tables c.args.place _ inside c.index.ensures)
    ∙ is.filled n n_in ∙ sym (is.real n) ∙ ap (λ (row : ℕ → Slot). is_filled (row n).cell) (sym (row-at pool tables c.args.place inside))
