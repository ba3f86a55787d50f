use Rattle.std.proofs.Common.{◌<◌, ◌+◌, length, get_or, set, arith, ap, ◌∙◌, sym, subst, cond, eqb, ltb, IfSome}
use Rattle.std.proofs.lemmas.Bool.{lt-ltb}
use Rattle.lwc_base.specs.Capabilities.{has_bit}
use Rattle.fd_table.specs.declared.table.Table.{Table}
use Rattle.fd_table.specs.Fillings.{slot_of}
use Rattle.fd_table.specs.Seen.{slots}
use Rattle.fd_table.specs.Slots.{Slot, is_filled, is_common, put_slot, row_of}
use Rattle.fd_table.specs.Tables.{rows, table_at}
use Rattle.fd_table.proofs.SlotLemmas.{length-rows, free-some}
use Rattle.fd_table.proofs.ChangeLemmas.{table-read, set-kept, set-rows, takes-same, fill-counts, fill-entry, empty-zero}
use Rattle.fd_table.proofs.slots.Slots.fill_slot.Goals as goal

pub take-o-requires-clause-free : goal.take-o-requires-clause-free
unfolding slots
take-o-requires-clause-free c =
    let pool = c.args.self.now.objects.pool in
    let tables = c.args.self.now.tables in
    let inside : c.args.place < length tables = omega (arith, c.requires.place, length-rows pool tables) in
    free-some pool tables c.args.place c.args.slot c.args.self.now.kept inside c.requires.slot (empty-zero pool tables c.args.place c.args.slot c.args.self.now.kept inside c.requires.empty)

pub take-o-requires-clause-target : goal.take-o-requires-clause-target
take-o-requires-clause-target c =
    subst (λ k. IfSome c.args.filling.now.target (λ number. number < k)) (sym c.args.self.now.numbers) c.requires.target

pub index_mut-requires : goal.index_mut-requires
unfolding slots
index_mut-requires c =
    omega (arith, c.requires.place, length-rows c.args.self.now.objects.pool c.args.self.now.tables)

pub invariant_of-self : goal.invariant_of-self
unfolding slots
invariant_of-self c =
    let pool = c.args.self.now.objects.pool in
    let tables = c.args.self.now.tables in
    let i = c.args.place in
    let n = c.args.slot in
    let o = c.take-o.result in
    let slot = slot_of c.args.filling.now in
    let new = c.take-o.new.self.pool in
    let kept = c.args.self.now.kept in
    let takes = c.take-o.ensures.pool in
    let inside : i < length tables = omega (arith, c.requires.place, length-rows pool tables) in
    let again = table-read tables i _ inside c.index_mut.ensures.value in
    let is = fill-entry pool new o slot takes in
    record {
      kept = set-kept pool new tables i n (o + 1) c.set.new.self c.is_common.result kept inside c.requires.slot
          (takes-same pool new tables o slot kept takes)
          (c.set.ensures.entries ∙ ap (λ (t : Table). set t.entries n (o + 1)) again) takes.size
          (fill-counts pool new o (get_or (table_at tables i).entries n 0) slot (empty-zero pool tables i n kept inside c.requires.empty) takes)
          (λ m lt. c.set.ensures.filled m lt ∙ ap (λ (t : Table). cond (eqb m n) (ltb 0 (o + 1)) (has_bit t.filled m)) again)
          (λ m lt. c.set.ensures.common m lt ∙ ap (λ (t : Table). cond (eqb m n) c.is_common.result (has_bit t.common m)) again)
          (ap (λ (s : Slot). is_filled s.cell) is ∙ c.requires.filled ∙ sym (lt-ltb 0 (o + 1) (omega arith)))
          (c.is_common.ensures ∙ sym (ap (λ (s : Slot). is_common s.cell) is));
      numbers = c.take-o.ensures.places ∙ c.args.self.now.numbers;
    }

pub returns : goal.returns
unfolding slots
returns c =
    let pool = c.args.self.now.objects.pool in
    let tables = c.args.self.now.tables in
    let i = c.args.place in
    let n = c.args.slot in
    let o = c.take-o.result in
    let slot = slot_of c.args.filling.now in
    let new = c.take-o.new.self.pool in
    let takes = c.take-o.ensures.pool in
    let inside : i < length tables = omega (arith, c.requires.place, length-rows pool tables) in
    let again = table-read tables i _ inside c.index_mut.ensures.value in
    set-rows pool new tables i n (o + 1) c.set.new.self c.is_common.result c.args.self.now.kept inside c.requires.slot
    (takes-same pool new tables o slot c.args.self.now.kept takes)
    (c.set.ensures.entries ∙ ap (λ (t : Table). set t.entries n (o + 1)) again)
    ∙ ap (λ s. set (rows pool tables) i (put_slot (row_of (rows pool tables) i) n s)) (fill-entry pool new o slot takes)
