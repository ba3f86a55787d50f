use Rattle.std.proofs.Common.{◌<◌, ap, arith, refl, ◌∙◌, set, length, get_or}
use Rattle.std.proofs.lemmas.List.{length-map}
use Rattle.late_rows.proofs.RowLemmas.{rows-set, row-read}
use Rattle.late_rows.proofs.rows.LateRowsIndexMutUsize.index_mut.Goals as goal

pub returns : goal.returns
returns g c =
    let fresh = g.T.Fresh.fresh in
    let new = c.number_of-number.new in
    let same = c.number_of-number.ensures.same ∙ c.self.view_is in
    let inside : c.args.row < length new.numbers.items =
    omega (arith, c.requires, length-map new.numbers.items (λ n. get_or new.made.items n fresh), ap length same) in (
      (
        refl,
        λ w. rows-set fresh _ _ _ c.args.row c.number_of-number.result w c.number_of-number.ensures.kept inside
            c.number_of-number.ensures.number c.number_of-number.ensures.changed
            ∙ ap (λ rows. set rows c.args.row w) same,
      ),
      record {
        writes_back = tt;
        value = row-read fresh _ _ _ c.args.row c.number_of-number.result c.index_mut.result.now c.number_of-number.ensures.kept inside
            c.number_of-number.ensures.number c.index_mut.ensures.value
            ∙ ap (λ rows. get_or rows c.args.row c.index_mut.result.now) same;
      },
    )
