use Rattle.std.proofs.Common.{refl, arith}
use Rattle.access_cap.proofs.Bits.{low_word-has}
use Rattle.access_cap.proofs.words.low_word.Goals as goal

pub returns-then-count-eq64-clause-has : goal.returns-then-count-eq64-clause-has
returns-then-count-eq64-clause-has c b within = low_word-has c.args.end c.args.index b c.min-count.result _ (omega arith) (rw c.if-count-eq64.true refl) within

pub returns-else-count-eq64-clause-has : goal.returns-else-count-eq64-clause-has
returns-else-count-eq64-clause-has c b within = low_word-has c.args.end c.args.index b c.min-count.result _ (omega arith) (omega arith) within
