use Rattle.std.proofs.Common.{rules}
use Rattle.access_cap.proofs.Bits.{item-has}
use Rattle.access_cap.proofs.words.item_word.Goals as goal

pub returns-then-eq : goal.returns-then-eq
returns-then-eq c k b kind number within =
    item-has c.args.item.now k _ b _ _ (search rules) number within c.low_word-then-eq.type_inv (c.low_word-then-eq.ensures.has b within) (c.low_word.ensures.has b within)
