use Rattle.std.proofs.Common.{◌∙◌, refl, sym}
use Rattle.access_cap.proofs.Bits.{has_bit-zero, is_named-none, one_item_more}
use Rattle.access_cap.proofs.words.named_word.Goals as goal

pub loop-item-init : goal.loop-item-init
loop-item-init c k b kind number within = has_bit-zero 0 b refl ∙ sym (is_named-none k)

pub loop-item-preserved : goal.loop-item-preserved
loop-item-preserved c k b kind number within =
    one_item_more _ _ _ k b _ _ c.loop-item-test.true (c.loop-item.invariant k b kind number within) (c.item_word-word.ensures k b kind number within)
