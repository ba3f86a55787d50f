use Rattle.std.proofs.Common.{◌∙◌, ap}
use Rattle.lwc_base.specs.Capabilities.{full_word}
use Rattle.access_cap.proofs.Keys.{full_has, is_full, no_words, one_word_more}
use Rattle.access_cap.proofs.whole.full.Goals as goal

pub words-init : goal.words-init
words-init c = no_words _

pub words-preserved : goal.words-preserved
words-preserved c = one_word_more _ _ _ _ c.words-test.true (c.low_word.ensures.word ∙ ap (λ n. full_word n c.words.i) c.from.ensures) c.words.invariant

pub returns-clause-full : goal.returns-clause-full
returns-clause-full c = is_full c.args.pages _ _ c.words-test.false c.words.auto.i-end c.words.invariant

pub returns-clause-keys : goal.returns-clause-keys
returns-clause-keys c = full_has c.args.pages _ (is_full c.args.pages _ _ c.words-test.false c.words.auto.i-end c.words.invariant)
