use Rattle.std.proofs.Common.{ap, ◌∙◌, ◌∷◌, [], ◌++◌, get_or}
use Rattle.late_rows.proofs.RowLemmas.{rows-opened}
use Rattle.late_rows.proofs.rows.LateRows.open.Goals as goal

pub returns : goal.returns
returns g c =
    rows-opened g.T.Fresh.fresh _ _ _ (c.in_ok-numbers.ensures.items_if_clones_equal (λ _ same. same))
    (ap (λ xs. get_or xs 0 g.T.Fresh.fresh) (c.push_reserved.ensures.items ∙ ap (λ xs. xs ++ c.fresh.result ∷ []) c.in_ok-made.ensures.items) ∙ c.fresh.ensures)
