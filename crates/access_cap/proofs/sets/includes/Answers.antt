use Rattle.std.proofs.Common.{arith, refl}
use Rattle.access_cap.proofs.Keys.{implied, includes_from, refuted, slots_of_keys, word_of_keys}
use Rattle.access_cap.proofs.sets.includes.Goals as goal

pub returns-then-not-has_bits_of : goal.returns-then-not-has_bits_of
returns-then-not-has_bits_of c =
    refuted _ _ c.has_bits_of.ensures c.if-not-has_bits_of.true refl (word_of_keys c.args.cap.now c.args.part.now c.parts.i c.parts-test.true)

pub returns-then-cap : goal.returns-then-cap
returns-then-cap c =
    includes_from c.args.cap.now c.args.part.now _ (λ i within. c.parts.invariant i (omega arith)) (c.has_bits_of-2.ensures.0 c.if-has_bits_of.true) ((λ is has. is), (λ each. c.if-cap.true))

pub returns-else-cap : goal.returns-else-cap
returns-else-cap c =
    includes_from c.args.cap.now c.args.part.now _ (λ i within. c.parts.invariant i (omega arith)) (c.has_bits_of-2.ensures.0 c.if-has_bits_of.true) (implied _ _ c.if-cap.false)

pub returns-else-has_bits_of : goal.returns-else-has_bits_of
returns-else-has_bits_of c = refuted _ _ c.has_bits_of-2.ensures c.if-has_bits_of.false c.if-has_bits_of.false (slots_of_keys c.args.cap.now c.args.part.now)
