use Rattle.std.proofs.Common.{◌≡◌, ◌∙◌, ◌&&◌, ◌/◌, ◌%◌, ap, List, ℕ, get_or, refl, arith}
use Rattle.lwc_base.specs.Capabilities.{has_bit, has_key}
use Rattle.lwc_types.specs.declared.key.Key.TheVariants.{Page, Slot, Cred}
use Rattle.access_cap.proofs.Bits.{has_bit-zero}
use Rattle.access_cap.proofs.Keys.{both_same, kept, left_out, masked_bit, zero_at}
use Rattle.access_cap.proofs.kinds.of_kinds.Goals.{then-contains, else-contains, then-contains-2, else-contains-2}
use Rattle.access_cap.proofs.kinds.of_kinds.Goals as goal

pub returns : goal.returns
unfolding has_key
returns c (Page p) most =
    let bit = λ (words : List ℕ). has_bit (get_or words (p / 64) 0) (p % 64) in
    let pages : bit c.if-contains.result ≡ (bit c.full-all.result.pages && c.contains.result) = elim c.if-contains.branch [
      | then-contains w ↦ kept _ _ _ (ap bit w.result-is) w.if-contains.true
      | else-contains w ↦ left_out _ _ _ (ap bit w.result-is ∙ has_bit-zero _ _ (zero_at 256 (p / 64))) w.if-contains.false
    ] in
    pages ∙ both_same _ _ _ _ (c.full-all.ensures.keys (Page p) most) (c.contains.ensures tt ∙ masked_bit c.args.mask.0 0 1 refl (omega arith))
returns c (Slot n) most =
    let bit = λ (word : ℕ). has_bit word n in
    let slots : bit c.if-contains-2.result ≡ (bit c.full-all.result.slots && c.contains-2.result) = elim c.if-contains-2.branch [
      | then-contains-2 w ↦ kept _ _ _ (ap bit w.result-is) w.if-contains-2.true
      | else-contains-2 w ↦ left_out _ _ _ (ap bit w.result-is ∙ has_bit-zero 0 n refl) w.if-contains-2.false
    ] in
    slots ∙ both_same _ _ _ _ (c.full-all.ensures.keys (Slot n) most) (c.contains-2.ensures tt ∙ masked_bit c.args.mask.0 1 2 refl (omega arith))
returns c Cred most = c.contains-3.ensures tt ∙ masked_bit c.args.mask.0 2 4 refl (omega arith)
