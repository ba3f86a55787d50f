use Rattle.std.proofs.Common.{◌-◌, arith, ap, ◌∙◌, sym, get_or, eqb, ⊎_elim}
use lib.Count.{count_leading_zeros}
use Rattle.std.proofs.lemmas.Nat.{leading_length}
use Rattle.std.proofs.lemmas.Nat.Bits.{bit_at_above}
use Rattle.std.proofs.lemmas.Bool.{cases_lt}
use Rattle.std.proofs.lemmas.List.{get_or_past}
use Rattle.fd_table.proofs.SlotLemmas.{times-front, zero-no}
use Rattle.fd_table.proofs.table.Table.used.Goals as goal

pub returns-clause-same : goal.returns-clause-same
returns-clause-same c = λ o.
    let table = c.args.self.now in
    let front = leading_length 64 table.filled (omega arith) in
    times-front o table.entries (64 - count_leading_zeros 64 table.filled) (λ n le. ⊎_elim
    (λ lt. zero-no (get_or table.entries n 0) (sym (c.requires n lt) ∙ ap (λ b. eqb b 1) (bit_at_above table.filled front.0 n front.2 (omega (arith, front.1, le)))))
    (λ past. get_or_past table.entries n 0 (omega (arith, past)))
    (cases_lt n 64))
