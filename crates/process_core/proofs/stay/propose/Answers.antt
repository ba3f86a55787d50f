use Rattle.std.proofs.Common.{◌∙◌, rules, arith}
use Rattle.process_core.proofs.Rows.{first_stays, one_more_in_row}
use Rattle.process_core.proofs.stay.propose.Goals as goal

pub places-preserved : goal.places-preserved
places-preserved c = record {
  row = one_more_in_row c.places.i c.places.places _ _ _ _ (omega arith) (omega (arith, c.places.invariant.long, c.places-test.true)) c.places.invariant.row c.in-Some.ensures c.advance_in-in-places.ensures.exact;
  long = search rules;
  fits = search rules;
  first = first_stays c.places.i c.places.places _ (omega arith) ∙ c.places.invariant.first;
}
