use Rattle.std.proofs.Common.{◌≡◌}
use Rattle.lwc_base.specs.Capabilities.{full_word}
use Rattle.access_cap.proofs.Keys.{HasWords}
use Rattle.access_cap.proofs.whole.full.Given as goal

abbrev pub invariant-words : goal.invariant-words
invariant-words l = HasWords (λ i word. word ≡ full_word l.pages i) l.i l.words
