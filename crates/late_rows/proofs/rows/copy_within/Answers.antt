use Rattle.std.proofs.Common.{◌≡◌, ◌∙◌, ◌-◌, ap, sym, arith, set, get_or}
use Rattle.std.proofs.lemmas.List.{set-append_left, get_or_append_left, get_or-append_right, get_or_default}
use Rattle.late_rows.proofs.RowLemmas.{back-set}
use Rattle.late_rows.proofs.rows.copy_within.Goals as goal

pub returns-then-from-to : goal.returns-then-from-to
returns-then-from-to g c =
    let parts = c.split_at_mut-front.result in
    let found = c.split_at_mut-front.ensures in
    λ fresh.
    back-set parts.0.now parts.1.now c.args.to c.copy_from.new.self found.front_len
    ∙ ap (λ all. set all c.args.to c.copy_from.new.self) (sym found.value)
    ∙ ap (set c.args.made.now c.args.to)
    (c.copy_from.ensures
    ∙ get_or_default parts.0.now c.args.from c.index-front-from.result fresh (omega (arith, found.front_len, c.if-from-to.true))
    ∙ sym (get_or_append_left parts.0.now parts.1.now fresh c.args.from (omega (arith, found.front_len, c.if-from-to.true)))
    ∙ ap (λ all. get_or all c.args.from fresh) (sym found.value))

pub returns-then-to-from : goal.returns-then-to-from
returns-then-to-from g c =
    let parts = c.split_at_mut-front-then-to-from.result in
    let found = c.split_at_mut-front-then-to-from.ensures in
    let new = c.copy_from-then-to-from.new.self in
    λ fresh.
    sym (set-append_left parts.0.now parts.1.now c.args.to new (omega (arith, found.front_len, c.if-to-from.true)))
    ∙ ap (λ all. set all c.args.to new) (sym found.value)
    ∙ ap (set c.args.made.now c.args.to)
    (c.copy_from-then-to-from.ensures
    ∙ get_or_default parts.1.now 0 c.index-back-0-then-to-from.result fresh (omega (arith, found.back_len, c.requires.from))
    ∙ ap (λ k. get_or parts.1.now k fresh) (let none : 0 ≡ c.args.from - c.args.from = omega arith in none)
    ∙ sym (get_or-append_right parts.0.now parts.1.now c.args.from c.args.from fresh found.front_len (omega arith))
    ∙ ap (λ all. get_or all c.args.from fresh) (sym found.value))
