use Rattle.std.proofs.Common.{◌≡◌, ◌+◌, ◌*◌, ◌<◌, ℕ, take}
use Rattle.lwc_base.specs.Capabilities.{has_bit, is_named}
use Rattle.lwc_base.specs.Modes.{kind_of, number_of}
use Rattle.lwc_types.specs.declared.key.Key.{Key}
use Rattle.access_cap.proofs.words.named_word.Given as goal

abbrev pub invariant-loop-item : goal.invariant-loop-item
invariant-loop-item l = (k : Key) (b : ℕ) → kind_of k ≡ l.kind → number_of k ≡ 64 * l.index + b → b < 64 →
    has_bit l.word b ≡ is_named (take l.item-index l.items) k
