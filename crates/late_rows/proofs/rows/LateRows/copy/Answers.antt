use Rattle.std.proofs.Common.{◌≡◌, ◌∙◌, ◌<◌, ap, sym, arith, set, get_or, length, length-set}
use Rattle.std.proofs.lemmas.List.{length-map, get_or-map, with_items_is}
use Rattle.std.proofs.lemmas.Grind.{get_or_default_zero}
use Rattle.late_rows.specs.Rows.{rows_of}
use Rattle.late_rows.proofs.RowLemmas.{rows-set}
use Rattle.late_rows.proofs.rows.LateRows.copy.Goals as goal

pub returns : goal.returns
returns g c =
    let fresh = g.T.Fresh.fresh in
    let numbers = c.number_of-number.new.numbers.items in
    let made = c.number_of-number.new.made.items in
    let same = c.number_of-number.ensures.same ∙ c.self.view_is in
    let long = sym (length-map numbers (λ n. get_or made n fresh)) ∙ ap length same in
    let to_in : c.args.to < length numbers = omega (arith, c.requires.to, long) in
    let from_in : c.args.from < length numbers = omega (arith, c.requires.from, long) in
    let is : c.index.result.now ≡ get_or numbers c.args.from 0 = c.index.ensures ∙ get_or_default_zero numbers c.args.from c.index.result.now from_in in
    let value = ap (λ n. get_or made n fresh) is ∙ sym (get_or-map (λ n. get_or made n fresh) numbers c.args.from 0 fresh from_in) in
    let written = c.copy_within.ensures fresh ∙ ap (λ made. set made c.number_of-number.result (get_or made c.index.result.now fresh)) c.deref_mut.ensures.value in
    let size = ap length written ∙ length-set made c.number_of-number.result (get_or made c.index.result.now fresh) in
    ap (rows_of fresh numbers)
    (with_items_is c.number_of-number.new.made c.copy_within.new.made (omega (arith, size, c.number_of-number.new.made.ok)) ∙ written)
    ∙ rows-set fresh _ numbers made c.args.to c.number_of-number.result (get_or made c.index.result.now fresh) c.number_of-number.ensures.kept to_in
    c.number_of-number.ensures.number c.number_of-number.ensures.changed
    ∙ ap (set (rows_of fresh numbers made) c.args.to) value
    ∙ ap (λ rows. set rows c.args.to (get_or rows c.args.from fresh)) same
