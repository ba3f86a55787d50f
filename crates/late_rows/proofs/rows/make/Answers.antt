use Rattle.std.proofs.Common.{◌≡◌, ◌∷◌, [], ◌++◌, ◌∙◌, ap, arith, length, set}
use Rattle.late_rows.specs.Rows.{rows_of}
use Rattle.late_rows.proofs.RowLemmas.{made-few, rows-made}
use Rattle.late_rows.proofs.rows.make.Goals as goal

pub push_reserved-requires : goal.push_reserved-requires
push_reserved-requires g c =
    omega (arith, c.args.made.now.ok, c.requires.kept.room, made-few g.T.Fresh.fresh _ _ _ c.args.row c.requires.kept c.requires.row c.requires.unmade)

pub overflow_cast-next : goal.overflow_cast-next
overflow_cast-next g c =
    omega (arith, c.args.made.now.ok, c.requires.kept.few, c.len-next.ensures, made-few g.T.Fresh.fresh _ _ _ c.args.row c.requires.kept c.requires.row c.requires.unmade)

pub returns-clause-same : goal.returns-clause-same
returns-clause-same g c =
    let fresh = g.T.Fresh.fresh in
    let long : c.len-next.result ≡ length c.args.made.now.items = omega (arith, c.args.made.now.ok, c.len-next.ensures) in
    ap (λ made. rows_of fresh (set c.args.numbers.now.items c.args.row c.len-next.result) made)
    (c.push_reserved.ensures.items ∙ ap (λ x. c.args.made.now.items ++ x ∷ []) c.fresh.ensures)
    ∙ ap (λ n. rows_of fresh (set c.args.numbers.now.items c.args.row n) (c.args.made.now.items ++ fresh ∷ [])) long
    ∙ rows-made fresh _ c.args.numbers.now.items c.args.made.now.items c.args.row c.requires.kept c.requires.row c.requires.unmade
