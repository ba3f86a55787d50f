use Rattle.std.proofs.Common.{◌∙◌, arith, refl}
use Rattle.lwc_types.specs.declared.key.Key.TheVariants.{Page, Slot, Cred}
use Rattle.std.proofs.lemmas.Nat.{and_le_r}
use Rattle.access_cap.proofs.Keys.{all_words, both_bits, is_meet_word, masked_bit, meet_is, one_word_more}
use Rattle.access_cap.proofs.sets.meet.Goals as goal

pub words-preserved : goal.words-preserved
words-preserved c =
    one_word_more _ _ _ _ c.words-test.true
    (is_meet_word _ _ _ _ c.named_word.type_inv (λ b within. c.named_word.ensures (Page _) b refl refl within)) c.words.invariant

pub returns-then-cap : goal.returns-then-cap
returns-then-cap c =
    meet_is c.args.cap.now _ _ _ c.items-items.ensures.items record {
      words = all_words _ _ _ c.words-test.false c.words.auto.i-end c.words.invariant;
      fits = omega (arith, and_le_r c.args.cap.now.slots c.named_word-2.result);
      slots = λ n within. both_bits _ _ n _ (c.named_word-2.ensures (Slot n) n refl (omega arith) within);
      cred = rw c.if-cap.true (masked_bit _ 0 1 refl (omega arith) ∙ c.named_word-then-cap.ensures Cred 0 refl refl (omega arith));
    }

pub returns-else-cap : goal.returns-else-cap
returns-else-cap c =
    meet_is c.args.cap.now _ _ _ c.items-items.ensures.items record {
      words = all_words _ _ _ c.words-test.false c.words.auto.i-end c.words.invariant;
      fits = omega (arith, and_le_r c.args.cap.now.slots c.named_word-2.result);
      slots = λ n within. both_bits _ _ n _ (c.named_word-2.ensures (Slot n) n refl (omega arith) within);
      cred = rw c.if-cap.false refl;
    }
