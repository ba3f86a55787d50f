use Rattle.std.proofs.lemmas.Bool.{eqb-true, eq-eqb}
use Rattle.access_cap.proofs.Bits.{part-has, part-none}
use Rattle.access_cap.proofs.words.has_bits_of.Goals as goal

pub returns : goal.returns
returns c = (
  (λ none. part-has c.args.word c.args.part c.ranges.word.fits (eqb-true _ _ none)),
  (λ all. eq-eqb _ _ (part-none c.args.word c.args.part c.ranges.word.fits c.ranges.part.fits all)),
)
